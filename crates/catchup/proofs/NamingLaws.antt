-- The rooms whose copies name a cart, as a set to walk over.
use mathlib.Core.Path.{◌≡◌, refl, sym, ap, ◌∙◌}
use mathlib.Core.Bool.{Bool, true, false, cond}
use mathlib.Core.List.{List}
use Prim.Native.Nat.{ℕ, ◌^◌, ◌<◌}
use native.Mathlib.Omega.{arith}
use Rattle.std.specs.Prelude as code
use Rattle.std.specs.Prelude.{Some, None}
use Rattle.std.proofs.lemmas.Option.{none-some}
use Rattle.protocol.specs.CartSets.{has}
use Rattle.protocol.proofs.Tests.{by_test, by_lt}
use Rattle.protocol.proofs.SetLaws.{has_zero, has_set_of, set_of_lt, member_below}
use Rattle.stations.specs.View.{Stations, stations_in, rooms, naming_in}
use Rattle.stations.proofs.TableLaws.{copy_beyond}
use Rattle.messages.specs.View.{Rooms}
use Rattle.ids.specs.declared.Station.{Station}
use Rattle.catchup.specs.Naming.{Covers, named_by}

-- a word has room for them
pub naming_word : (S : Stations) (t c : ℕ) → naming_in S t c < 2 ^ 64
naming_word S t c = let z = set_of_lt rooms (λ m. has (S.copy m t) c) in omega arith

-- they are rooms that a station's row has words for
pub naming_inside : (l : List ℕ) (t c m : ℕ) → has (naming_in (stations_in l) t c) m ≡ true → m < rooms
naming_inside l t c m h = member_below rooms (naming_in (stations_in l) t c) m (set_of_lt rooms (λ k. has ((stations_in l).copy k t) c)) h

-- they are all that name it
pub naming_covers : (l : List ℕ) (t c b : ℕ) → ((m : ℕ) → has (naming_in (stations_in l) t c) m ≡ true → m < b) → (n : ℕ) → n ≡ naming_in (stations_in l) t c → Covers b (stations_in l) t c n
naming_covers l t c b low n e = rw e (record {
  inside = low;
  others = λ m h. by_lt m rooms
      (λ b. sym (has_set_of rooms (λ k. has ((stations_in l).copy k t) c) m b) ∙ h)
      (λ b. ap (λ (x : ℕ). has x c) (copy_beyond l m t b) ∙ has_zero c);
})

-- WHOSE NEXT NUMBER A MESSAGE IS ABOUT
module _ (S : Stations) (R : Rooms) (t c m : ℕ) where
  pub named_by_lem : (k : ℕ) (i : Station) (b : Bool) → k ≡ S.copy m t → b ≡ has k c → b ≡ true → i.0 ≡ R.initiator m → Some i ≡ named_by S R t c m
  named_by_lem k i b ek eb y e = rw (ap (λ (x : ℕ). has x c) (sym ek) ∙ sym eb ∙ y) (ap (λ (x : ℕ). Some (record { 0 = x })) e)

  pub by_nobody : (k : ℕ) (b : Bool) → k ≡ S.copy m t → b ≡ has k c → b ≡ false → None ≡ named_by S R t c m
  by_nobody k b ek eb n = rw (ap (λ (x : ℕ). has x c) (sym ek) ∙ sym eb ∙ n) refl

  -- whoever is named is the initiator, and the copy names the cart
  pub by_initiator : (i : Station) {o : code.Option Station} → o ≡ named_by S R t c m → o ≡ Some i → (i.0 ≡ R.initiator m) × (has (S.copy m t) c ≡ true)
  by_initiator i e found =
      by_test (has (S.copy m t) c)
      (λ y. (ap (λ (x : code.Option Station). initiator_in x) (sym found ∙ e ∙ ap (λ (b : Bool). cond b (Some (record { 0 = R.initiator m })) None) y), y))
      (λ n. absurd (none-some i (sym (sym found ∙ e ∙ ap (λ (b : Bool). cond b (Some (record { 0 = R.initiator m })) None) n))))
    where
      initiator_in : code.Option Station → ℕ
      initiator_in None = 0
      initiator_in (Some s) = s.0

  -- where nobody is, the copy does not name the cart
  pub by_none : {o : code.Option Station} → o ≡ named_by S R t c m → o ≡ None → has (S.copy m t) c ≡ false
  by_none e nobody =
      by_test (has (S.copy m t) c)
      (λ y. absurd (none-some (record { 0 = R.initiator m }) (sym nobody ∙ e ∙ ap (λ (b : Bool). cond b (Some (record { 0 = R.initiator m })) None) y)))
      (λ n. n)
