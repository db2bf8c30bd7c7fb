-- ONE PASS OVER THE ROOMS finds the nearest message of each initiator, and where each next number stops.
use mathlib.Core.Path.{◌≡◌, refl, sym, ap, ◌∙◌}
use mathlib.Core.Bool.{Bool, true, false, ◌&&◌}
use mathlib.Core.List.{List, [], ◌∷◌}
use mathlib.Core.Option.{Option, none, some}
use Prim.Native.Nat.{ℕ, ◌+◌, ◌-◌, ◌<◌, ◌≤◌}
use native.Mathlib.Omega.{arith}
use lib.Dec.{ltb, leb}
use lib.ListN.{get_or, set}
use borrow.Author.Tests.{lt-ltb, le-ltb, le-leb, ltb-true, leb-true}
use Rattle.protocol.specs.Folds.{list_of}
use Rattle.protocol.specs.CartSets.{has}
use Rattle.protocol.specs.Floor.{Floor}
use Rattle.protocol.proofs.Tests.{by_test, by_lt, by_eq, clash, and_left, and_right, and_intro}
use Rattle.protocol.proofs.SetLaws.{has_zero}
use Rattle.queue.specs.Rooms.{room_word}
use Rattle.catchup.specs.Nearest.{would_stop, nearer_with, nearest_among, stop_by}
use Rattle.catchup.specs.Arrival.{nearest_row, stop_in}
use Rattle.catchup.proofs.ClosedForm.{IsNearest, nearest_is, would}
use Rattle.catchup.proofs.StopLaws.{below_expected, other_initiator, by_number}
use Rattle.catchup.proofs.RoomLaws.{passed_by_lem, nearest_next, nearest_same, nearest_skips}
use Rattle.catchup.proofs.RowLaws.{is_row, row_by, row_entry, row_length, row_same, row_again, entry_says}

-- ONE MESSAGE, of the initiator s, whose copy names the cart

module _ (F : Floor) (t c s x m : ℕ) (from : F.initiator m ≡ s) (named : has (F.copy m t) c ≡ true) where
  -- where the next number stops so far
  abbrev upto : Option ℕ → ℕ
  upto o = (stop_by F t s x o).upto

  stops : F.number m < F.expected t s → x ≤ F.number m → has (F.waiting m) t ≡ true → would_stop F t c s x m ≡ true
  stops low far waits =
      sym (by_number F t c s x m (F.waiting m) (F.initiator m) (F.number m) (F.expected t s) (F.copy m t) (has (F.waiting m) t) (has (F.copy m t) c)
      refl refl refl refl refl refl refl
      (λ q. clash (has (F.waiting m) t) waits (ap (λ (k : ℕ). has k t) q ∙ has_zero t)) from waits low named)
      ∙ le-leb x (F.number m) far

  sooner : (o : Option ℕ) → IsNearest F t c s x m o → F.number m < upto o → x ≤ F.number m → has (F.waiting m) t ≡ true → nearer_with F t c s x m o ≡ some m
  sooner none n low far waits = rw (stops (omega arith) far waits)
  sooner (some k) n low far waits =
      let z = below_expected F t c s x k n.1.0 in
      rw (stops (omega arith) far waits, lt-ltb (F.number m) (F.number k) low)

  not_sooner : (o : Option ℕ) → IsNearest F t c s x m o → (F.number m < upto o → x ≤ F.number m → has (F.waiting m) t ≡ true → ⊥) → nearer_with F t c s x m o ≡ o
  not_sooner o n h = by_test (would_stop F t c s x m) (λ e. stopped o n h e) (λ e. passed_by_lem F t c s x m o e)
    where
      waits : would_stop F t c s x m ≡ true → has (F.waiting m) t ≡ true
      waits e = and_left (has (F.waiting m) t) (ltb (F.number m) (F.expected t (F.initiator m))) (would F t c s x m e).buffered

      stopped : (o : Option ℕ) → IsNearest F t c s x m o → (F.number m < upto o → x ≤ F.number m → has (F.waiting m) t ≡ true → ⊥) → would_stop F t c s x m ≡ true
          → nearer_with F t c s x m o ≡ o
      stopped none n h e =
          let low = below_expected F t c s x m e in
          absurd (h (omega arith) (would F t c s x m e).far (waits e))
      stopped (some k) n h e =
          by_lt (F.number m) (F.number k)
          (λ l. absurd (h l (would F t c s x m e).far (waits e)))
          (λ l. rw (e, le-ltb (F.number m) (F.number k) l))

-- BOTH ROWS

module _ (F : Floor) (t c : ℕ) (row : List ℕ) where
  -- what a nearest message says of where initiator s's next number stops, and of its room
  abbrev pub stop_of : ℕ → Option ℕ → ℕ
  stop_of s o = (stop_by F t s (get_or row s 0) o).upto

  abbrev code_of : ℕ → Option ℕ → ℕ
  code_of s o = room_word o

  -- both rows are known, by the messages in the first n rooms
  pub record Known (n : ℕ) (upto nearest : List ℕ) : Type 0 where
    pub stops : upto ≡ row_by F t c row stop_of n
    pub rooms : nearest ≡ nearest_row F t c row n

  pub known_start : (upto : List ℕ) → upto ≡ list_of 16 (λ s. get_or row s 0 + (F.expected t s - get_or row s 0))
      → Known 0 upto (32 ∷ 32 ∷ 32 ∷ 32 ∷ 32 ∷ 32 ∷ 32 ∷ 32 ∷ 32 ∷ 32 ∷ 32 ∷ 32 ∷ 32 ∷ 32 ∷ 32 ∷ 32 ∷ [])
  unfolding list_of nearest_among
  known_start upto e = record { stops = e; rooms = refl }

  module _ (upto nearest : List ℕ) where
    -- rooms that change no nearest message
    known_same : (a b : ℕ) → ((s : ℕ) → s < 16 → nearest_among F t c s (get_or row s 0) b ≡ nearest_among F t c s (get_or row s 0) a) → Known a upto nearest → Known b upto nearest
    known_same a b h K = record {
      stops = row_same F t c row stop_of a b upto K.stops h;
      rooms = row_same F t c row code_of a b nearest K.rooms h;
    }

    pub known_skips : (a b : ℕ) → a ≤ b → ((m : ℕ) → a ≤ m → m < b → has (F.copy m t) c ≡ false) → Known a upto nearest → Known b upto nearest
    known_skips a b h absent K = known_same a b (λ s l. nearest_skips F t c s (get_or row s 0) a b h absent) K

    module _ (m : ℕ) (K : Known m upto nearest) where
      -- a message that stops the cart nowhere
      pub known_nowhere : ((s x : ℕ) → s < 16 → would_stop F t c s x m ≡ false) → Known (m + 1) upto nearest
      known_nowhere h = known_same m (m + 1) (λ s l. nearest_same F t c s (get_or row s 0) m (h s (get_or row s 0) l)) K

      module _ (s : ℕ) (from : s ≡ F.initiator m) (low : s < 16) (named : has (F.copy m t) c ≡ true) (b : Bool)
          (test : b ≡ ((ltb (F.number m) (get_or upto s 0) && leb (get_or row s 0) (F.number m)) && has (F.waiting m) t)) where
        abbrev found : Option ℕ
        found = nearest_among F t c s (get_or row s 0) m

        so_far : get_or upto s 0 ≡ (stop_by F t s (get_or row s 0) found).upto
        so_far = row_entry F t c row stop_of m upto K.stops s low

        abbrev between : Bool
        between = ltb (F.number m) (get_or upto s 0) && leb (get_or row s 0) (F.number m)

        -- one that does not stop it before
        pub known_later : b ≡ false → Known (m + 1) upto nearest
        known_later n =
            known_same m (m + 1) (λ k l. by_initiator k) K
          where
            later : nearer_with F t c s (get_or row s 0) m found ≡ found
            later =
                not_sooner F t c s (get_or row s 0) m (sym from) named found (nearest_is F t c s (get_or row s 0) m)
                (λ p q w. clash b
                (test ∙ and_intro between (has (F.waiting m) t)
                (and_intro (ltb (F.number m) (get_or upto s 0)) (leb (get_or row s 0) (F.number m)) (lt-ltb (F.number m) (get_or upto s 0) (let z = so_far in omega arith)) (le-leb (get_or row s 0) (F.number m) q)) w)
                n)

            by_initiator : (k : ℕ) → nearest_among F t c k (get_or row k 0) (m + 1) ≡ nearest_among F t c k (get_or row k 0) m
            by_initiator k =
                by_eq k s
                (λ q. rw q (nearest_next F t c s (get_or row s 0) m ∙ later))
                (λ d. nearest_same F t c k (get_or row k 0) m (other_initiator F t c k (get_or row k 0) m (λ q. d (sym q ∙ sym from))))

        -- one that does
        pub known_sooner : (n : ℕ) → b ≡ true → n ≡ F.number m → Known (m + 1) (set upto s n) (set nearest s m)
        known_sooner n y e = record {
          stops = row_again F t c row stop_of m s n upto K.stops from low (e ∙ ap (stop_of s) (sym is));
          rooms = row_again F t c row code_of m s m nearest K.rooms from low (ap room_word (sym is));
        }
          where
            passed : (between && has (F.waiting m) t) ≡ true
            passed = sym test ∙ y

            both : between ≡ true
            both = and_left between (has (F.waiting m) t) passed

            is : nearest_among F t c s (get_or row s 0) (m + 1) ≡ some m
            is =
                nearest_next F t c s (get_or row s 0) m
                ∙ sooner F t c s (get_or row s 0) m (sym from) named found (nearest_is F t c s (get_or row s 0) m)
                (let z = so_far in let p = ltb-true (F.number m) (get_or upto s 0) (and_left (ltb (F.number m) (get_or upto s 0)) (leb (get_or row s 0) (F.number m)) both) in omega arith)
                (leb-true (get_or row s 0) (F.number m) (and_right (ltb (F.number m) (get_or upto s 0)) (leb (get_or row s 0) (F.number m)) both))
                (and_right between (has (F.waiting m) t) passed)

    -- all rooms are looked at
    pub known_all : Known 32 upto nearest → upto ≡ list_of 16 (stop_in F t row nearest)
    known_all K =
        is_row 16 upto (stop_in F t row nearest) (row_length F t c row stop_of 32 upto K.stops)
        (λ s l. row_entry F t c row stop_of 32 upto K.stops s l
        ∙ ap (stop_of s) (sym (entry_says F t c row nearest K.rooms s l)))
