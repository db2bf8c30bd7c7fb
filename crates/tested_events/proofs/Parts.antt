-- LENT LENGTHS GO BY THE CALLER'S LIMITS: a part that is right for the floor is wrong for the kit, and the other way round, and every call answers 5.
use mathlib.Core.Path.{◌≡◌, refl, sym, ap, ◌∙◌}
use mathlib.Core.Logic.{◌⊎◌, inl, inr}
use mathlib.Core.Bool.{true, false}
use mathlib.Core.List.{List}
use Prim.Native.Nat.{ℕ, ◌+◌, ◌*◌, ◌≤◌}
use native.Mathlib.Omega.{arith}
use lib.ListN.{length}
use Rattle.protocol.specs.Floor.{Product, limits_of, most_records, whole_floor, kit}
use Rattle.protocol.specs.Events.{Event, Answer, start, enter, send, wire, radio, move, flag, group, send_group, send_long, retire, refused}
use Rattle.protocol.specs.Form.{passes_form}
use Rattle.protocol.specs.Quiet.{turned_away}
use Rattle.protocol.proofs.Tests.{by_test}
use Rattle.std.specs.Prelude.{Result, Ok, Err}
use Rattle.refusals.specs.declared.Refusal.{Refusal}
use Rattle.refusals.specs.declared.Refusal.TheVariants.{NotReady}
use Rattle.refusals.specs.Numbers.{number_of}
use Rattle.view.specs.View.{Lent, lengths_in, floor_in}
use Rattle.view.proofs.Lengths.{Lengths, lengths_of}
use Rattle.form_test.proofs.Split.{fails_lengths}
use Rattle.event_start.proofs.Starts.{start_lengths}
use Rattle.event_answers.specs.Met.{Met}
use Rattle.event_answers.proofs.Broken.{broken_enter, broken_send, broken_wire, broken_radio, broken_move, broken_flag, broken_group, broken_send_group, broken_send_long, broken_retire}
use Rattle.dispatcher.specs.Called.{quiet_in, QuietMet}
use Rattle.dispatcher.proofs.CalledLaws.{quiet_broken}
use Rattle.reading.specs.Parts.{read_in}
use Rattle.reading.proofs.PartLaws.{read_broken}
use Rattle.tested_events.specs.Parts.{SharesPart, FitText}

-- two products that differ in all these numbers have no part of the same length
module _ (P Q : Product) (stations : P.stations ≡ Q.stations → ⊥) (carts : P.carts ≡ Q.carts → ⊥) (held : P.held ≡ Q.held → ⊥)
    (records : most_records (limits_of P) ≡ most_records (limits_of Q) → ⊥) where
  module _ (K L : Lent) (p : K.product ≡ P) (q : L.product ≡ Q) where
    -- an equation of the lengths of a part, in the numbers of both products
    between : (part : Lent → List ℕ) (long : Product → ℕ) → length (part K) ≡ long K.product → length (part L) ≡ long L.product → part L ≡ part K → long P ≡ long Q
    between part long k l e = ap long (sym p) ∙ sym k ∙ ap length (sym e) ∙ l ∙ ap long q

    not_both : Lengths K → SharesPart K L → Lengths L → ⊥
    not_both k (inl e) l = stations (let z = between (λ X. X.stations) (λ X. 116 + X.stations * 116) k.stations l.stations e in omega arith)
    not_both k (inr (inl e)) l = carts (let z = between (λ X. X.carts) (λ X. X.carts * 19) k.carts l.carts e in omega arith)
    not_both k (inr (inr (inl e))) l = held (let z = between (λ X. X.messages) (λ X. X.held * 7) k.messages l.messages e in omega arith)
    not_both k (inr (inr (inr (inl e)))) l = records (let z = between (λ X. X.lines) (λ X. 1842 + most_records (limits_of X) * 3) k.lines l.lines e in omega arith)
    not_both k (inr (inr (inr (inr e)))) l = held (let z = between (λ X. X.texts) (λ X. X.held * 32) k.texts l.texts e in omega arith)

    wrong : lengths_in K ≡ true → SharesPart K L → lengths_in L ≡ false
    wrong k s = by_test (lengths_in L) (λ l. absurd (not_both (lengths_of K k) s (lengths_of L l))) (λ l. l)

-- the floor and the kit, either way round
pub floor_part_wrong_for_kit : (K L : Lent) → K.product ≡ whole_floor → L.product ≡ kit → lengths_in K ≡ true → SharesPart K L → lengths_in L ≡ false
floor_part_wrong_for_kit = wrong whole_floor kit (λ z. omega arith) (λ z. omega arith) (λ z. omega arith) (λ z. omega arith)

pub kit_part_wrong_for_floor : (K L : Lent) → K.product ≡ kit → L.product ≡ whole_floor → lengths_in K ≡ true → SharesPart K L → lengths_in L ≡ false
kit_part_wrong_for_floor = wrong kit whole_floor (λ z. omega arith) (λ z. omega arith) (λ z. omega arith) (λ z. omega arith)

-- the refusal whose number is 5
is_not_ready : (r : Refusal) → number_of r ≡ 5 → r ≡ NotReady
is_not_ready r e = grind arith

-- 5, of every event, and no word is changed
module _ (L : Lent) (lengths : lengths_in L ≡ false) where
  breaks : false ≡ passes_form (limits_of L.product) (floor_in L)
  breaks = fails_lengths L.product L.stations L.carts L.messages L.lines L.texts L.store (lengths_in L) refl lengths

  meets_5 : (e : Event) → FitText e → Met L L e (refused 5)
  meets_5 (start n k) _ = start_lengths L.product L.stations L.carts L.messages L.lines L.texts L.store n k (lengths_in L) refl lengths
  meets_5 (enter t c) _ = broken_enter L false breaks refl t c
  meets_5 (send s set text) short = broken_send L false breaks refl s set text short
  meets_5 (wire i j) _ = broken_wire L false breaks refl i j
  meets_5 (radio t c buffer) _ = broken_radio L false breaks refl t c buffer
  meets_5 (move c to) _ = broken_move L false breaks refl c to
  meets_5 (flag c b) _ = broken_flag L false breaks refl c b
  meets_5 (group g set) _ = broken_group L false breaks refl g set
  meets_5 (send_group s g text) short = broken_send_group L false breaks refl s g text short
  meets_5 (send_long s set text) long = broken_send_long L false breaks refl s set text long.0 long.1
  meets_5 (retire c) _ = broken_retire L false breaks refl c

  -- 4 is met before it: a send with a text that is too long, or a long send with one of another length
  pub wrong_lengths_are_5 : (L' : Lent) (e : Event) (a : Answer) → Met L L' e a → FitText e → (a ≡ refused 5) × (L' ≡ L)
  wrong_lengths_are_5 L' e a met short = let five = met.answers ∙ sym (meets_5 e short).answers in (five, met.untouched 5 five)

  refused_is : (a : Result ℕ Refusal) → quiet_in a ≡ turned_away 5 → a ≡ Err NotReady
  refused_is (Err r) e = ap Err (is_not_ready r (cc))
  refused_is (Ok steps) e = absurd (let z : ◌≡◌ {A = ℕ} 0 1 = cc in omega arith)

  pub quiet_wrong_lengths_is_5 : (L' : Lent) (buffer buffer' : List ℕ) (a : Result ℕ Refusal) → QuietMet L L' buffer buffer' a → (a ≡ Err NotReady) × (L' ≡ L)
  quiet_wrong_lengths_is_5 L' buffer buffer' a met =
      let five = refused_is a (met.answers ∙ sym (quiet_broken L buffer (sym breaks)).answers) in
      (five, met.untouched NotReady five)

  -- and the reading call lends back nothing
  pub read_wrong_lengths_is_5 : (s n : ℕ) → read_in L s n ≡ Err NotReady
  read_wrong_lengths_is_5 s n = sym (read_broken L s n (sym breaks))
