-- What no clause speaks of (`spoken`, in Invariant): whatever changes nothing else keeps the invariant, the facts of the lines, the sizes, what the
-- two-list rule goes by, the sum of the next numbers, and the form rule.
use mathlib.Core.Path.{ap, subst, sym, ◌≡◌}
use mathlib.Core.Bool.{Bool, true}
use Prim.Native.Nat.{ℕ}
use Rattle.protocol.specs.Floor.{Floor, Limits, set_groups, set_steady}
use Rattle.protocol.specs.Handoff.{room_of}
use Rattle.protocol.specs.Form.{passes_form}
use Rattle.protocol.specs.Blank.{BlankBeyond}
use Rattle.protocol.specs.TwoLists.{owes}
use Rattle.protocol.specs.SumRule.{total}
use Rattle.protocol.proofs.Invariant.{History, Invariant, InvariantOf, spoken}
use Rattle.protocol.proofs.LineFacts.{LineFacts}
use Rattle.protocol.proofs.Sized.{Sized, SizedOf}

-- what holds of F holds of H too
pub record HoldsToo (M : Limits) (F H : Floor) : Type 0 where
  pub invariant : (G : History) → Invariant M F G → Invariant M H G
  pub lines : LineFacts M F → LineFacts M H
  pub sizes : Sized M F → Sized M H
  pub owed : (s c : ℕ) → owes M H s c ≡ owes M F s c
  pub sum : total H ≡ total F
  pub blank : BlankBeyond M F → BlankBeyond M H
  pub form : passes_form M H ≡ passes_form M F

pub unspoken : (M : Limits) (F H : Floor) → spoken H ≡ spoken F → HoldsToo M F H
unfolding owes total passes_form room_of
unspoken M F H e =
    record {
      invariant = λ G I. subst (λ (X : Floor). InvariantOf M (set_groups X (λ g. 0)) G) (sym e) I;
      lines = λ X. subst (λ (Y : Floor). LineFacts M Y) (sym e) X;
      sizes = λ S. subst (λ (X : Floor). SizedOf M X) (sym e) S;
      owed = λ s c. ap (λ (X : Floor). owes M X s c) e;
      sum = ap total e;
      blank = λ B. blank_with (spoken H) H.steady (subst (λ (X : Floor). BlankBeyond M X) (sym e) (blank_with F (λ c. true) B));
      form = ap (λ (X : Floor). passes_form M X) e;
    }
  where
    blank_with : (X : Floor) (x : ℕ → Bool) → BlankBeyond M X → BlankBeyond M (set_steady X x)
    blank_with X x B = record { sent = B.sent; expected = B.expected; place = B.place; next = B.next; queue = B.queue; lines = B.lines }
