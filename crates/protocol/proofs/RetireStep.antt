-- Retire: the history forgets the cart.
use mathlib.Core.Path.{ap, fun_ext, refl, sym, ◌∙◌, ◌≡◌}
use mathlib.Core.Bool.{◌&&◌, Bool, cond, false, not, true}
use mathlib.Core.List.{List, [], ◌∷◌}
use Prim.Native.Nat.{◌<◌, suc, zero, ℕ, ◌≤◌}
use native.Mathlib.Omega.{arith}
use lib.Dec.{eqb}
use lib.ListN.{get_or, length, take}
use borrow.Author.Tests.{eqb-false, ne_eqb, not-true}
use Rattle.protocol.specs.CartSets.{has, without}
use Rattle.protocol.specs.Floor.{Floor, Limits, Record, ack_list, at, delete, deregister, entered, local_to, multicast, outside, register, station_of}
use Rattle.protocol.specs.Handoff.{on_enter, on_retire, row_of, struck}
use Rattle.protocol.specs.Form.{acks_to, bit, count_line, handoff_of}
use Rattle.protocol.proofs.Tests.{and_left, and_right, and-true, by_eq, by_test, clash, eqb_self, on_cond, on_update}
use Rattle.protocol.proofs.SetLaws.{has_without, has_zero, without_absent}
use Rattle.protocol.proofs.FloorLaws.{at_home}
use Rattle.protocol.proofs.Accepted.{MayRetire}
use Rattle.protocol.proofs.Invariant.{Entry, Held, History, Invariant, Sound, blank, names, naming}
use Rattle.protocol.proofs.Counting.{all_map2, count_at, count_line_le, each_counts}
use Rattle.protocol.proofs.LineFacts.{HeldRecord, LineFacts}
use Rattle.protocol.proofs.CatchUp.{arrive_at_once}

-- the sends, with cart c in no set
abbrev pub forget : ℕ → List Entry → List Entry
forget c [] = []
forget c (e ∷ h) = record { set = without e.set c; text = e.text } ∷ forget c h

pub length_forget : (c : ℕ) (h : List Entry) → length (forget c h) ≡ length h
length_forget c [] = refl
length_forget c (e ∷ h) = ap suc (length_forget c h)

take_forget : (c n : ℕ) (h : List Entry) → take n (forget c h) ≡ forget c (take n h)
take_forget c zero h = refl
take_forget c (suc n) [] = refl
take_forget c (suc n) (e ∷ h) = rw (take_forget c n h)

set_forget : (c : ℕ) (h : List Entry) (n : ℕ) → (get_or (forget c h) n blank).set ≡ without (get_or h n blank).set c
set_forget c [] n = sym (without_absent 0 c (has_zero c))
set_forget c (e ∷ h) zero = refl
set_forget c (e ∷ h) (suc n) = set_forget c h n

text_forget : (c : ℕ) (h : List Entry) (n : ℕ) → (get_or (forget c h) n blank).text ≡ (get_or h n blank).text
text_forget c [] n = refl
text_forget c (e ∷ h) zero = refl
text_forget c (e ∷ h) (suc n) = text_forget c h n

pub names_forget : (c : ℕ) (h : List Entry) (n d : ℕ) → names (forget c h) n d ≡ true → (names h n d ≡ true) × (d ≡ c → ⊥)
names_forget c h n d e =
    let q : has (get_or h n blank).set d && not (eqb c d) ≡ true = sym (has_without (get_or h n blank).set c d) ∙ (rw (set_forget c h n) at e) in (
      and_left (has (get_or h n blank).set d) (not (eqb c d)) q,
      λ z. eqb-false c d
          (not-true (eqb c d) (and_right (has (get_or h n blank).set d) (not (eqb c d)) q)) (sym z),
    )

pub naming_forget : (c d k : ℕ) (h : List Entry) → (d ≡ c → ⊥) → naming d k (forget c h) ≡ naming d k h
naming_forget c d k [] ne = refl
naming_forget c d k (e ∷ h) ne =
    let z : has (without e.set c) d ≡ has e.set d = has_without e.set c d ∙ rw (ne_eqb c d (λ y. ne (sym y))) (and-true (has e.set d)) in
    rw (z, naming_forget c d (suc k) h ne)

-- the history without cart c
abbrev pub forgotten : History → ℕ → History
forgotten G c = record { sends = λ s. forget c (G.sends s); received = λ s d. cond (eqb d c) [] (G.received s d) }

module _ (M : Limits) (F : Floor) (G : History) (c : ℕ) (may : MayRetire M F c) (I : Invariant M F G) (X : LineFacts M F) where
  unnamed : (m : ℕ) → Held M F.waiting m → has (F.named m) c ≡ true → ⊥
  unnamed m h n = may.unnamed m h.slot h.some n

  N : ℕ → ℕ → ℕ
  N = λ d s. cond (eqb d c) 0 (F.next d s)

  other : (d s : ℕ) → (d ≡ c → ⊥) → N d s ≡ F.next d s
  unfolding N
  other d s ne = rw (ne_eqb d c ne)

  is_at_lem : F.place c ≡ at (station_of (F.place c))
  is_at_lem = at_home (F.place c) may.has_entered_lem may.not_moving

  -- what is said of a cart that is named is said of another
  not_c : (m d : ℕ) → Held M F.waiting m → has (F.named m) d ≡ true → d ≡ c → ⊥
  not_c m d h n z = unnamed m h (rw z at n)

  still_sound : (i j : ℕ) → i < F.stations → j < F.stations → (b : Record) → HeldRecord M F i j b → Sound G.sends F.next i j b ×
      ((f : Record → Bool) → f b ≡ true → 0 < count_line f (F.lines i j))
      → Sound (forgotten G c).sends N i j b
  still_sound i j li lj (multicast n) g p = tt
  still_sound i j li lj (ack_list n x) g p =
      let h = g.0 in
      λ d e. let q = p.1 (acks_to (F.initiator h.m) (F.number h.m) d i j) (rw (h.is_initiator, h.is_number, eqb_self j, eqb_self n) e) in
      let y = count_line_le F.stations (acks_to (F.initiator h.m) (F.number h.m) d) F.lines i j li lj in
      let nm = X.within h.m d h.held (omega arith) in
      let z = other d j (not_c h.m d h.held nm) in
      let v = p.0 d e in omega arith
  still_sound i j li lj (delete n) g p = (
    let z = length_forget c (G.sends i) in let y = p.0.0 in omega arith,
    λ d e. let w = names_forget c (G.sends i) n d e in let z = other d i w.1 in let y = p.0.1 d w.0 in omega arith,
  )
  still_sound i j li lj (deregister d) g p = tt
  still_sound i j li lj (register d row) g p = tt

  pub retire_ok : Invariant M (on_retire F c).floor (forgotten G c)
  unfolding N on_retire
  retire_ok =
      record {
        sends_counted = λ s. length_forget c (G.sends s) ∙ I.sends_counted s;
        low = λ d s. on_cond (λ x. x ≤ F.sent s) (eqb d c) (λ e. omega arith) (λ e. I.low d s);
        run = I.run;
        held = λ m h. let k = I.held m h in
            record {
              low = k.low;
              is_set = set_forget c (G.sends (F.initiator m)) (F.number m) ∙ rw k.is_set
                  (without_absent (F.named m) c (by_test (has (F.named m) c) (λ e. absurd (unnamed m h e)) (λ e. e)));
              is_text = text_forget c (G.sends (F.initiator m)) (F.number m) ∙ k.is_text;
            };
        one_room = I.one_room;
        owed = λ s n d ld e le. let w = names_forget c (G.sends s) n d e in I.owed s n d ld w.0 (let z = other d s w.1 in omega arith);
        gone = λ m t d h lt e nm. let z = other d (F.initiator m) (not_c m d h nm) in let y = I.gone m t d h lt e nm in omega arith;
        acks = λ m t d h lt e.
            let k = count_at F.stations (λ u. has (F.acks m u) d) t lt e in
            let z = other d (F.initiator m) (not_c m d h (X.within m d h (omega arith))) in let y = I.acks m t d h lt e in omega arith;
        acked = λ m d h e.
            let k : bit (has (F.acked m) d) ≡ 1 = rw e in
            let z = other d (F.initiator m) (not_c m d h (X.within m d h (omega arith))) in let y = I.acked m d h e in omega arith;
        copies = λ m t d h lt e ld nm le. I.copies m t d h lt e ld nm (let z = other d (F.initiator m) (not_c m d h nm) in omega arith);
        within = I.within;
        queues = λ m t d e. let q = I.queues m t d e in
            let ne = not_c m d q.held q.is_named_lem in
            record {
              held = q.held;
              home = on_update (λ p. local_to p t ≡ true) F.place c outside d (λ z. absurd (ne z)) (λ z. q.home);
              due = other d (F.initiator m) ne ∙ q.due;
              is_named_lem = q.is_named_lem;
            };
        records_sound = λ i j li lj. all_map2 (F.lines i j) (still_sound i j li lj) (X.records_held i j li lj)
            (all_map2 (F.lines i j) (λ b p q. (p, q)) (I.records_sound i j li lj) (each_counts (F.lines i j)));
        handoffs_right = λ d i j.
            by_eq d c
            (λ z. rw (z, eqb_self c) (I.handoffs_right c i j ∙ rw is_at_lem))
            (λ z. rw (ne_eqb d c z) (I.handoffs_right d i j ∙ ap (λ (f : ℕ → ℕ). handoff_of (F.place d) i j (row_of M f))
            (fun_ext (λ s. sym (other d s z)))));
        out = λ d s. by_eq d c (λ z e. rw (z, eqb_self c)) (λ z. rw (ne_eqb d c z) (I.out d s));
        real = λ d. on_update (λ p. entered p ≡ true → d < F.carts) F.place c outside d (λ z e. clash false e refl) (λ z. I.real d);
        received_so_far = λ s d.
            by_eq d c
            (λ z. rw (z, eqb_self c))
            (λ z. rw (ne_eqb d c z) (I.received_so_far s d ∙ sym (ap (naming d 0) (take_forget c (F.next d s) (G.sends s)) ∙ naming_forget c d 0
            (take (F.next d s) (G.sends s)) z)));
        started = I.started;
        senders = I.senders;
        fits = I.fits;
      }

-- an entry leaves the groups
pub enter_keeps_groups : (M : Limits) (F : Floor) (t c : ℕ) → (on_enter M F t c).floor.groups ≡ F.groups
unfolding on_enter struck
enter_keeps_groups M F t c = rw (arrive_at_once M F t c (λ s. 0))
