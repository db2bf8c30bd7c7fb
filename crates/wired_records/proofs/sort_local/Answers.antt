use mathlib.Core.Path.{◌≡◌, refl, sym, ap, ◌∙◌, subst}
use mathlib.Core.Bool.{true, false, not}
use Prim.Native.Nat.{ℕ, ◌+◌, ◌<◌, ◌^◌}
use native.Mathlib.Omega.{arith}
use lib.Dec.{eqb, ltb}
use borrow.Author.Rules.{rules}
use borrow.Author.Tests.{eq-eqb, ne_eqb, le-ltb}
use Rattle.protocol.specs.CartSets.{minus, with, without}
use Rattle.protocol.proofs.Counting.{bit_le}
use Rattle.carts.specs.View.{carts_in}
use Rattle.sets.specs.Masks.{size}
use Rattle.wired_records.specs.Handled.{Raised}
use Rattle.wired_records.proofs.Walk.{walked_none, left_turn, at_hand, rest_of, none_left, gather_turn, gather_fresh, gather_all, gather_others}
use Rattle.wired_records.proofs.Walk.{raise_turn, next_kept, size_turn, size_few}
use Rattle.wired_records.proofs.sort_local.Goals as goal

pub loop-cart-init : goal.loop-cart-init
loop-cart-init c =
    let a = c.args in
    walked_none a.carts.now a.local a.named a.initiator.0 a.number (c.into_iter-cart-iterator.ensures.into_iter_gives ∙ c.members_of-cart-items.ensures) (search rules)

pub next_of-next-requires : goal.next_of-next-requires
next_of-next-requires c =
    let hand = at_hand _ _ c.next.ensures.steps c.args.local c.in-Some.cart c.in-Some.is c.loop-cart.invariant.rest in
    let row = c.requires.0 _ hand.member in
    let size = c.loop-cart.invariant.raises.length in
    (omega arith, c.requires.1)

pub has-requires : goal.has-requires
has-requires c =
    let hand = at_hand _ _ c.next.ensures.steps c.args.local c.in-Some.cart c.in-Some.is c.loop-cart.invariant.rest in
    hand.below

pub overflow_add-next : goal.overflow_add-next
overflow_add-next c =
    let one = bit_le (not c.has.result) in
    let rise = c.rise_of-rises.ensures in
    let equal = c.if-next-number.true in
    let small = c.requires.2 in
    omega arith

pub put_next-requires : goal.put_next-requires
put_next-requires c =
    let hand = at_hand _ _ c.next.ensures.steps c.args.local c.in-Some.cart c.in-Some.is c.loop-cart.invariant.rest in
    let row = c.requires.0 _ hand.member in
    let size = c.loop-cart.invariant.raises.length in
    (omega arith, c.requires.1)

pub overflow_add-passed : goal.overflow_add-passed
overflow_add-passed c =
    let few = size_few (minus c.loop-cart.invariant.due c.args.named) in
    let many = c.loop-cart.invariant.counts in
    let one = bit_le (not c.has.result) in
    let rise = c.rise_of-rises.ensures in
    omega arith

pub loop-cart-preserved-then-next-number : goal.loop-cart-preserved-then-next-number
loop-cart-preserved-then-next-number c =
    let hand = at_hand _ _ c.next.ensures.steps c.args.local c.in-Some.cart c.in-Some.is c.loop-cart.invariant.rest in
    let a = c.args in
    let l = c.loop-cart in
    let i = l.invariant in
    let k = c.in-Some.cart in
    let left = l.cart-iterator.left in
    let left' = c.next.new.self.left in
    let n = c.next_of-next in
    let equal = c.if-next-number.true in
    let h = c.has in
    let b = c.rise_of-rises in
    let p = c.put_next in
    let own : ℕ → ℕ = λ d. (carts_in a.carts.now).next d a.initiator.0 in
    let rest : left' ≡ without left k = rest_of _ _ c.next.ensures.steps k c.in-Some.is in
    let fresh = gather_fresh a.local (λ d. eqb (own d) a.number) left i.due k hand i.met in
    let kept : n.result ≡ own k = n.ensures ∙ next_kept a.carts.now a.named a.initiator.0 a.number l.carts i.due k fresh i.raises in
    let is : eqb (own k) a.number ≡ true = eq-eqb (own k) a.number (sym kept ∙ equal) in
    record {
      due = with i.due k;
      rest = left_turn a.local left left' k rest i.rest;
      met = gather_turn a.local (λ d. eqb (own d) a.number) left left' i.due (with i.due k) k true rest (sym is) refl hand i.met;
      unmet = gather_turn a.local (λ d. not (eqb (own d) a.number)) left left' l.others l.others k false rest (sym (ap not is)) refl hand i.unmet;
      beyond = gather_turn a.local (λ d. ltb a.number (own d)) left left' l.past l.past k false rest (sym (le-ltb a.number (own k) (omega arith))) refl hand i.beyond;
      raises = raise_turn a.carts.now a.named a.initiator.0 a.number l.carts i.due k fresh i.raises p.new.carts (with i.due k) n.result b.result h.result
          n.ensures equal h.ensures b.ensures refl (p.ensures.carts_after, (p.ensures.carts_unchanged, p.ensures.carts_len_unchanged));
      counts = size_turn a.carts.now a.named a.initiator.0 a.number l.carts i.due k fresh i.raises p.new.carts (with i.due k) n.result b.result h.result
          n.ensures equal h.ensures b.ensures refl l.passed hand.below i.counts;
    }

pub with_member-others-requires : goal.with_member-others-requires
with_member-others-requires c =
    let hand = at_hand _ _ c.next.ensures.steps c.args.local c.in-Some.cart c.in-Some.is c.loop-cart.invariant.rest in
    hand.below

pub with_if-past-requires : goal.with_if-past-requires
with_if-past-requires c =
    let hand = at_hand _ _ c.next.ensures.steps c.args.local c.in-Some.cart c.in-Some.is c.loop-cart.invariant.rest in
    hand.below

pub loop-cart-preserved : goal.loop-cart-preserved
loop-cart-preserved c =
    let hand = at_hand _ _ c.next.ensures.steps c.args.local c.in-Some.cart c.in-Some.is c.loop-cart.invariant.rest in
    let a = c.args in
    let l = c.loop-cart in
    let i = l.invariant in
    let k = c.in-Some.cart in
    let left = l.cart-iterator.left in
    let left' = c.next.new.self.left in
    let n = c.next_of-next in
    let other = c.if-next-number.false in
    let x = c.with_member-others in
    let y = c.with_if-past in
    let own : ℕ → ℕ = λ d. (carts_in a.carts.now).next d a.initiator.0 in
    let rest : left' ≡ without left k = rest_of _ _ c.next.ensures.steps k c.in-Some.is in
    let fresh = gather_fresh a.local (λ d. eqb (own d) a.number) left i.due k hand i.met in
    let kept : n.result ≡ own k = n.ensures ∙ next_kept a.carts.now a.named a.initiator.0 a.number l.carts i.due k fresh i.raises in
    let is : eqb (own k) a.number ≡ false = ne_eqb (own k) a.number (λ e. other (kept ∙ e)) in
    record {
      due = i.due;
      rest = left_turn a.local left left' k rest i.rest;
      met = gather_turn a.local (λ d. eqb (own d) a.number) left left' i.due i.due k false rest (sym is) refl hand i.met;
      unmet = gather_turn a.local (λ d. not (eqb (own d) a.number)) left left' l.others x.result k true rest (sym (ap not is)) x.ensures hand i.unmet;
      beyond = gather_turn a.local (λ d. ltb a.number (own d)) left left' l.past y.result k (ltb a.number n.result) rest (ap (λ (z : ℕ). ltb a.number z) kept) y.ensures hand i.beyond;
      raises = i.raises;
      counts = i.counts;
    }

pub returns : goal.returns
returns c =
    let a = c.args in
    let l = c.loop-cart in
    let i = l.invariant in
    let m = c.minus in
    let none = none_left _ _ c.next.ensures.steps c.in-None.is in
    let own : ℕ → ℕ = λ d. (carts_in a.carts.now).next d a.initiator.0 in
    let small : a.local < 2 ^ 64 = search rules in
    let due = m.ensures ∙ gather_others a.local (λ d. eqb (own d) a.number) l.cart-iterator.left l.others small none i.unmet in
    let same : i.due ≡ m.result = gather_all a.local (λ d. eqb (own d) a.number) l.cart-iterator.left i.due none i.met ∙ sym due in
    record {
      due_value = due;
      past_value = gather_all a.local (λ d. ltb a.number (own d)) l.cart-iterator.left l.past none i.beyond;
      raised = subst (λ (x : ℕ). Raised a.carts.now l.carts (minus x a.named) a.initiator.0 (a.number + 1)) same i.raises;
      passed_value = i.counts ∙ ap (λ (x : ℕ). size 64 (minus x a.named)) same;
    }
