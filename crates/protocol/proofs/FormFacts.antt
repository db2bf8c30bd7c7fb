-- The form rule as facts: a history can be made up for any floor that has them, so every event keeps them, and they bound the lines.
use mathlib.Core.Path.{ap, refl, ◌∙◌, ◌≡◌}
use mathlib.Core.Bool.{Bool, true}
use mathlib.Core.Option.{Option, some}
use Prim.Native.Nat.{◌*◌, ◌+◌, ◌<◌, ℕ, ◌≤◌}
use native.Mathlib.Omega.{arith}
use lib.Dec.{ltb}
use lib.ListN.{get_or, take}
use borrow.Author.Tests.{ltb-false, ltb-true}
use Rattle.protocol.specs.Folds.{by_option, list_of}
use Rattle.protocol.specs.CartSets.{has}
use Rattle.protocol.specs.Floor.{Floor, Limits, Record, ack_list, delete, deregister, entered, multicast, on_the_lines, outside, register}
use Rattle.protocol.specs.Events.{Event}
use Rattle.protocol.specs.Groups.{as_sent}
use Rattle.protocol.specs.Handoff.{room_of, row_of}
use Rattle.protocol.specs.Form.{acks_of, acks_to, bit, count_line, handoff_of, handoffs, multicast_numbers}
use Rattle.protocol.specs.Step.{answer, step}
use Rattle.protocol.proofs.Tests.{by_option_lem, by_test, clash, eqb_self, length_list_of, list_of_at, list_of_past}
use Rattle.protocol.proofs.SetLaws.{has_zero}
use Rattle.protocol.proofs.Invariant.{CountsUp, Entry, Held, History, Holds, Invariant, Queued, Sound, blank, names, naming}
use Rattle.protocol.proofs.CatchUp.{room_none, room_some}
use Rattle.protocol.proofs.InvariantStep.{note, step_ok}
use Rattle.protocol.proofs.Counting.{all_map2, count_at, count_line_le, each_counts}
use Rattle.protocol.proofs.LineFacts.{HeldRecord, LineFacts}
use Rattle.protocol.proofs.LinesRadio.{acked_has_passed}
use Rattle.protocol.proofs.LinesSteps.{step_lines}
use Rattle.protocol.proofs.RecordBound.{room}

pub record FormFacts (M : Limits) (F : Floor) : Type 0 where
  pub low : (c s : ℕ) → F.next c s ≤ F.sent s
  pub run : (s t : ℕ) → t < F.stations → CountsUp (F.expected t s) (multicast_numbers (F.lines s t)) (F.sent s)
  pub kept : (m : ℕ) → Held M F.waiting m → F.number m < F.sent (F.initiator m)
  pub one_room : (m k : ℕ) → Held M F.waiting m → Held M F.waiting k → F.initiator m ≡ F.initiator k → F.number m ≡ F.number k → m ≡ k
  pub acked_passed : (m c : ℕ) → Held M F.waiting m → 0 < acks_of M F m c → F.number m < F.next c (F.initiator m)
  pub copies : (m t c : ℕ) → Held M F.waiting m → t < F.stations → F.number m < F.expected t (F.initiator m) → c < F.carts → has (F.named m) c ≡ true → F.next c (F.initiator m) ≤ F.number m → has (F.copy m t) c ≡ true
  pub within : (m t c : ℕ) → Held M F.waiting m → t < F.stations → has (F.copy m t) c ≡ true → has (F.named m) c ≡ true
  pub queues : (m t c : ℕ) → has (F.queue m t) c ≡ true → Queued M F.waiting F.initiator F.number F.named F.place F.next m t c
  pub handoffs_right : (c i j : ℕ) → handoffs c (F.lines i j) ≡ handoff_of (F.place c) i j (row_of M (F.next c))
  pub out : (c s : ℕ) → F.place c ≡ outside → F.next c s ≡ 0
  pub real : (c : ℕ) → entered (F.place c) ≡ true → c < F.carts
  pub started : F.started ≡ true
  pub senders : (s : ℕ) → 0 < F.sent s → s < F.stations
  pub fits : F.stations ≤ M.stations
  pub on_lines_lem : LineFacts M F

module _ (M : Limits) (F : Floor) (X : FormFacts M F) where
  -- a history that fits: the held messages, and blanks
  pub send_of : Option ℕ → Entry
  send_of o = by_option o blank (λ m. record { set = F.named m; text = F.text m })

  abbrev pub past : History
  past =
      record {
        sends = λ s. list_of (F.sent s) (λ n. send_of (room_of M F s n));
        received = λ s c. naming c 0 (take (F.next c s) (list_of (F.sent s) (λ n. send_of (room_of M F s n))));
      }

  pub room_of_held : (m : ℕ) → Held M F.waiting m → room_of M F (F.initiator m) (F.number m) ≡ some m
  room_of_held m h =
      by_option_lem (room_of M F (F.initiator m) (F.number m))
      (λ e. absurd (room_none M F (F.initiator m) (F.number m) m e h refl refl))
      (λ k e. let g = room_some M F (F.initiator m) (F.number m) k e in e ∙ ap some (X.one_room k m g.0 h g.1.0 g.1.1))

  entry : (m : ℕ) → Held M F.waiting m → get_or (past.sends (F.initiator m)) (F.number m) blank ≡ record { set = F.named m; text = F.text m }
  unfolding send_of
  entry m h = list_of_at (F.sent (F.initiator m)) (λ n. send_of (room_of M F (F.initiator m) n)) blank (F.number m) (X.kept m h) ∙ rw (room_of_held m h)

  holds : (s n c : ℕ) → names (past.sends s) n c ≡ true → Holds M F.waiting F.initiator F.number s n
  unfolding send_of
  holds s n c e =
      by_test (ltb n (F.sent s))
      (λ q. let z = list_of_at (F.sent s) (λ n. send_of (room_of M F s n)) blank n (ltb-true n (F.sent s) q) in
      by_option_lem (room_of M F s n)
      (λ f. clash (has 0 c) (let e' : has (send_of (room_of M F s n)).set c ≡ true = rw z at e in rw f at e') (has_zero c))
      (λ m f. let g = room_some M F s n m f in record { m = m; held = g.0; is_initiator = g.1.0; is_number = g.1.1 }))
      (λ q. let z = list_of_past (F.sent s) (λ n. send_of (room_of M F s n)) blank n (ltb-false n (F.sent s) q) in clash (has 0 c) (rw z at e) (has_zero c))

  acked' : (m c : ℕ) → Held M F.waiting m → has (F.acked m) c ≡ true → F.number m < F.next c (F.initiator m)
  acked' m c h e = X.acked_passed m c h (let y : bit (has (F.acked m) c) ≡ 1 = rw e in omega arith)

  sound : (i j : ℕ) → i < F.stations → j < F.stations → (b : Record) → HeldRecord M F i j b → ((f : Record → Bool) → f b ≡ true → 0 < count_line f (F.lines i j)) → Sound past.sends F.next i j b
  sound i j li lj (multicast n) g p = tt
  sound i j li lj (ack_list n x) g p =
      let h = g.0 in
      λ c e. let q = p (acks_to (F.initiator h.m) (F.number h.m) c i j) (rw (h.is_initiator, h.is_number, eqb_self j, eqb_self n) e) in
      let y = count_line_le F.stations (acks_to (F.initiator h.m) (F.number h.m) c) F.lines i j li lj in
      let z = X.acked_passed h.m c h.held (omega arith) in rw (h.is_initiator, h.is_number) at z
  sound i j li lj (delete n) g p =
      let r = g.0 in
      let lt = X.kept r.m r.held in
      let lt' : n < F.sent i = rw (r.is_initiator, r.is_number) at lt in
      let l = length_list_of (F.sent i) (λ n. send_of (room_of M F i n)) in (
        omega arith,
        λ c e. let en = entry r.m r.held in
            let en' : get_or (past.sends i) n blank ≡ record { set = F.named r.m; text = F.text r.m } = rw (r.is_initiator, r.is_number) at en in
            let d : has (F.named r.m) c ≡ true = rw en' at e in
            let a : has (F.acked r.m) c ≡ true = rw g.1 d in
            let z = acked' r.m c r.held a in rw (r.is_initiator, r.is_number) at z,
      )
  sound i j li lj (deregister d) g p = tt
  sound i j li lj (register d row) g p = tt

  pub some_history : Invariant M F past
  some_history =
      record {
        sends_counted = λ s. length_list_of (F.sent s) (λ n. send_of (room_of M F s n));
        held = λ m h. let en = entry m h in record { low = X.kept m h; is_set = ap (λ (x : Entry). x.set) en; is_text = ap (λ (x : Entry). x.text) en };
        owed = λ s n c lc e le. holds s n c e;
        gone = λ m t c h lt e d. acked' m c h (let z = X.on_lines_lem.deleted_acked m t h lt e in rw z d);
        acks = λ m t c h lt e. X.acked_passed m c h (let z = count_at F.stations (λ t. has (F.acks m t) c) t lt e in omega arith);
        acked = acked';
        records_sound = λ i j li lj. all_map2 (F.lines i j) (sound i j li lj) (X.on_lines_lem.records_held i j li lj) (each_counts (F.lines i j));
        received_so_far = λ s c. refl;
        low = X.low;
        run = X.run;
        one_room = X.one_room;
        copies = X.copies;
        within = X.within;
        queues = X.queues;
        handoffs_right = X.handoffs_right;
        out = X.out;
        real = X.real;
        started = X.started;
        senders = X.senders;
        fits = X.fits;
      }

-- back
pub facts_of_invariant : (M : Limits) (F : Floor) (G : History) → Invariant M F G → LineFacts M F → FormFacts M F
facts_of_invariant M F G I X =
    record {
      kept = λ m h. (I.held m h).low;
      acked_passed = λ m c h t. acked_has_passed M F G I m c h t;
      on_lines_lem = X;
      low = I.low;
      run = I.run;
      one_room = I.one_room;
      copies = I.copies;
      within = I.within;
      queues = I.queues;
      handoffs_right = I.handoffs_right;
      out = I.out;
      real = I.real;
      started = I.started;
      senders = I.senders;
      fits = I.fits;
    }

-- THE FORM RULE: kept by every step, and it bounds the lines
pub facts_step : (M : Limits) (F : Floor) (e : Event) → FormFacts M F → FormFacts M (step M F e)
facts_step M F e X =
    facts_of_invariant M (step M F e) (note (as_sent F e) (answer M F e) (past M F X)) (step_ok M F (past M F X) (some_history M F X) X.on_lines_lem e)
    (step_lines M F (past M F X) (some_history M F X) X.on_lines_lem e)

pub facts_bound : (M : Limits) (F : Floor) → FormFacts M F → on_the_lines F.stations F.lines ≤ M.held * (F.stations + F.stations + F.carts) + F.carts
facts_bound M F X = room M F X.on_lines_lem X.run X.handoffs_right
