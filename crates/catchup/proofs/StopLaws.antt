-- The ways through the test whether a message would stop the cart.
use mathlib.Core.Path.{◌≡◌, refl, ap, sym, ◌∙◌}
use mathlib.Core.Bool.{Bool, true, false, not}
use mathlib.Core.List.{List}
use Prim.Native.Nat.{ℕ, ◌<◌, ◌≤◌}
use native.Mathlib.Omega.{arith}
use lib.Dec.{eqb, ltb, leb}
use borrow.Author.Tests.{ltb-true, le-leb, lt-leb, lt-ltb, le-ltb, eqb-false, leb-true, not-true, ne_eqb}
use Rattle.protocol.specs.CartSets.{has}
use Rattle.protocol.specs.Floor.{Floor}
use Rattle.protocol.proofs.Tests.{by_test, clash, and_left, and_right, and_intro, and-false, same_test}
use Rattle.stations.specs.View.{stations_in}
use Rattle.messages.specs.View.{Rooms, rooms_in}
use Rattle.queue.specs.Rooms.{tables_floor}
use Rattle.catchup.specs.Naming.{named_by}
use Rattle.catchup.specs.Nearest.{would_stop}
use Rattle.catchup.specs.Arrival.{stops_before}
use Rattle.catchup.proofs.ClosedForm.{would, would_intro}
use Rattle.catchup.proofs.NamingLaws.{by_none, by_initiator}
use Rattle.std.specs.Prelude as code
use Rattle.std.specs.Prelude.{Some, None}
use Rattle.ids.specs.declared.Station.{Station}

module _ (F : Floor) (t c s x m : ℕ) where
  refused : (would_stop F t c s x m ≡ true → ⊥) → false ≡ would_stop F t c s x m
  refused h = by_test (would_stop F t c s x m) (λ e. absurd (h e)) (λ e. sym e)

  -- the message is buffered, among the numbers that the station has handled
  pub below_expected : would_stop F t c s x m ≡ true → F.number m < F.expected t s
  below_expected e =
      let p = would F t c s x m e in
      let z = ltb-true (F.number m) (F.expected t (F.initiator m)) (and_right (has (F.waiting m) t) (ltb (F.number m) (F.expected t (F.initiator m))) p.buffered) in
      rw p.is_initiator at z

  pub other_initiator : (F.initiator m ≡ s → ⊥) → would_stop F t c s x m ≡ false
  other_initiator h = sym (refused (λ e. h (would F t c s x m e).is_initiator))

  module _ (w : ℕ) (is_waiting : w ≡ F.waiting m) where
    pub not_held : w ≡ 0 → false ≡ would_stop F t c s x m
    not_held z = refused (λ e. eqb-false (F.waiting m) 0 (not-true (eqb (F.waiting m) 0) (would F t c s x m e).held) (sym is_waiting ∙ z))

    pub not_waiting : (b : Bool) → b ≡ has w t → b ≡ false → false ≡ would_stop F t c s x m
    not_waiting b e n =
        refused (λ y. clash (has (F.waiting m) t)
        (and_left (has (F.waiting m) t) (ltb (F.number m) (F.expected t (F.initiator m))) (would F t c s x m y).buffered)
        (ap (λ (k : ℕ). has k t) (sym is_waiting) ∙ sym e ∙ n))

  pub not_from : (i : ℕ) → i ≡ F.initiator m → (i ≡ s → ⊥) → false ≡ would_stop F t c s x m
  not_from i e d = sym (other_initiator (λ q. d (e ∙ q)))

  pub not_handled : (n y : ℕ) → n ≡ F.number m → y ≡ F.expected t s → y ≤ n → false ≡ would_stop F t c s x m
  not_handled n y en ey l = refused (λ e. let z = below_expected e in omega arith)

  pub not_in_copy : (k : ℕ) (b : Bool) → k ≡ F.copy m t → b ≡ has k c → b ≡ false → false ≡ would_stop F t c s x m
  not_in_copy k b ek eb n = refused (λ e. clash (has (F.copy m t) c) (would F t c s x m e).in_copy (ap (λ (z : ℕ). has z c) (sym ek) ∙ sym eb ∙ n))

  -- all tests but the last are passed
  pub by_number : (w i n y k : ℕ) (b d : Bool) → w ≡ F.waiting m → i ≡ F.initiator m → n ≡ F.number m → y ≡ F.expected t s → k ≡ F.copy m t → b ≡ has w t
      → d ≡ has k c → (w ≡ 0 → ⊥) → i ≡ s → b ≡ true → n < y → d ≡ true → leb x n ≡ would_stop F t c s x m
  by_number w i n y k b d ew ei en ey ek eb ed held from waits low named =
      same_test (leb x n) (would_stop F t c s x m)
      (λ e. would_intro F t c s x m
      (record {
        held = ap not (ne_eqb (F.waiting m) 0 (λ q. held (ew ∙ q)));
        is_initiator = is_from;
        buffered = and_intro (has (F.waiting m) t) (ltb (F.number m) (F.expected t (F.initiator m))) (ap (λ (z : ℕ). has z t) (sym ew) ∙ sym eb ∙ waits) handled;
        in_copy = ap (λ (z : ℕ). has z c) (sym ek) ∙ sym ed ∙ named;
        far = (let z = leb-true x n e in omega arith);
      }))
      (λ e. le-leb x n (let z = (would F t c s x m e).far in omega arith))
    where
      is_from : F.initiator m ≡ s
      is_from = sym ei ∙ from

      below : F.number m < F.expected t s
      below = omega arith

      handled : ltb (F.number m) (F.expected t (F.initiator m)) ≡ true
      handled = rw is_from (lt-ltb (F.number m) (F.expected t s) below)

-- The ways through the test whether a message stops the cart from x on and before u.
module _ (R : Rooms) (t m x u n : ℕ) (is_number : n ≡ R.number m) where
  pub not_before : u ≤ n → false ≡ stops_before R t m x u
  not_before l = rw (le-ltb (R.number m) u (omega arith))

  pub not_so_far : n < x → false ≡ stops_before R t m x u
  not_so_far l = rw (lt-leb x (R.number m) (omega arith), and-false (ltb (R.number m) u))

  pub by_waiting : (w : ℕ) (b : Bool) → n < u → x ≤ n → w ≡ R.waiting m → b ≡ has w t → b ≡ stops_before R t m x u
  by_waiting w b low far ew eb = rw (lt-ltb (R.number m) u (omega arith), le-leb x (R.number m) (omega arith)) (eb ∙ ap (λ (k : ℕ). has k t) ew)

-- a message that does not name the cart stops it nowhere, nor does one that is of none of sixteen initiators
module _ (S M : List ℕ) (t c m : ℕ) {o : code.Option Station} (e : o ≡ named_by (stations_in S) (rooms_in M) t c m) where
  pub stops_nowhere : o ≡ None → (s x : ℕ) → s < 16 → would_stop (tables_floor S M) t c s x m ≡ false
  stops_nowhere nobody s x l =
      sym (not_in_copy (tables_floor S M) t c s x m ((stations_in S).copy m t) (has ((stations_in S).copy m t) c) refl refl (by_none (stations_in S) (rooms_in M) t c m e nobody))

  pub stops_none_of_us : (i : Station) → o ≡ Some i → 16 ≤ i.0 → (s x : ℕ) → s < 16 → would_stop (tables_floor S M) t c s x m ≡ false
  stops_none_of_us i found h s x l =
      other_initiator (tables_floor S M) t c s x m (λ z. let q = (by_initiator (stations_in S) (rooms_in M) t c m i e found).0 in omega (arith, h, l, q, z))
