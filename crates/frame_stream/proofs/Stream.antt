-- THE STREAM PRINTS THE PRINTED RUN: however an input is cut into reads, what the turns hand on, one after the other, are the lines of its frames.
use mathlib.Core.Path.{◌≡◌, refl, sym, ap, ◌∙◌, subst}
use mathlib.Core.Bool.{Bool, true, false}
use mathlib.Core.List.{List, [], ◌∷◌, ◌++◌, append-nil, append_assoc}
use mathlib.Core.Logic.{◌⊎◌, inl, inr, ⊎_elim}
use Prim.{tt}
use Prim.Native.Nat.{ℕ, ◌+◌, ◌<◌, ◌≤◌}
use native.Mathlib.Omega.{arith}
use lib.ListN.{drop}
use lib.Seq.{drop-append-le, drop-drop}
use borrow.Author.Tests.{eqb-true, eq-eqb, ne_eqb}
use Rattle.protocol.specs.Folds.{is_empty}
use Rattle.protocol.specs.Floor.{Product, Floor, limits}
use Rattle.protocol.specs.Frames.{Reading, end, refused_frame, taken, frame_of, read_at}
use Rattle.protocol.proofs.Tests.{by_test, by_eq, clash}
use Rattle.frame_run.specs.Piece.{Ran, run_from}
use Rattle.frame_run.specs.CanRun.{Unstarted}
use Rattle.frame_run.specs.Went.{NoneWhole, EndsRun}
use Rattle.frame_run.proofs.Whole.{joined, stands, runs_go_on, octets_inside}
use Rattle.frame_run.proofs.Printed.{printed_begins, printed_whole}
use Rattle.frame_run.proofs.Frames.{floor_of_frames}
use Rattle.frame_stream.specs.Stream.{Stream, begin, Turn, brought, failed, ran, piece, state_after, after, handed, brought_in, Stops, MayBy, TurnsBy, lines_fill, Turns, stream_after, brought_by, handed_by, Behind, OverAt, StreamIs}

-- WHAT IS TO BE DONE after a run
over_why : (why : ℕ) (last accepted : Bool) → why ≤ 2 → state_after why last accepted ≡ 2 → (why ≡ 2) ⊎ ((why ≡ 1) × (last ≡ true))
over_why why last false h e = absurd (omega arith)
over_why why last true h e =
    by_eq why 2 (λ two. inl two)
    (λ not_two. by_eq why 0
    (λ none. absurd (let z : 0 ≡ 2 = rw (ne_eqb why 2 not_two, eq-eqb why 0 none) at e in omega arith))
    (λ some. inr (omega arith, by_test last (λ t. t) (λ f. absurd (let z : 1 ≡ 2 = rw (ne_eqb why 2 not_two, ne_eqb why 0 some, f) at e in omega arith)))))

pub wants_why : (why : ℕ) (last accepted : Bool) → why ≤ 2 → state_after why last accepted ≡ 1 → (why ≡ 1) × (last ≡ false)
wants_why why last false h e = absurd (omega arith)
wants_why why last true h e =
    by_eq why 2 (λ two. absurd (let z : 2 ≡ 1 = rw (eq-eqb why 2 two) at e in omega arith))
    (λ not_two. by_eq why 0
    (λ none. absurd (let z : 0 ≡ 1 = rw (ne_eqb why 2 not_two, eq-eqb why 0 none) at e in omega arith))
    (λ some. (omega arith, by_test last (λ t. absurd (let z : 2 ≡ 1 = rw (ne_eqb why 2 not_two, ne_eqb why 0 some, t) at e in omega arith)) (λ f. f))))

goes_why : (why : ℕ) (last accepted : Bool) → why ≡ 2 → state_after why last accepted < 2 → ⊥
goes_why why last false e h = omega arith
goes_why why last true e h = let z : 2 < 2 = rw (eq-eqb why 2 e) at h in omega arith

-- where no frame is whole and the input has ended, no octet is left; and a frame that ends the run is refused
no_octet : (r : Reading) → NoneWhole true r → r ≡ end
no_octet end h = refl
no_octet (refused_frame r) h = clash true refl h.1
no_octet (taken e size) h = absurd h

over_at_end : (last : Bool) (r : Reading) → last ≡ true → r ≡ end → OverAt last r
over_at_end last end t e = t
over_at_end last (refused_frame r) t e = tt
over_at_end last (taken x size) t e = absurd (let z : ◌≡◌ {A = ℕ} 0 1 = cc in omega arith)

over_at_refusal : (last : Bool) (r : Reading) → EndsRun last r → OverAt last r
over_at_refusal last end h = absurd h
over_at_refusal last (refused_frame r) h = tt
over_at_refusal last (taken e size) h = absurd h

-- THE RUN SO FAR, over an input of which W is all and `later` has not been read yet: H is what it printed
pub record SoFar (P : Product) (F : Floor) (W H : List ℕ) (S : Stream) (later : List ℕ) : Type 0 where
  pub count : (run_from P S.index F 0 W).count ≡ S.index
  pub printed : (run_from P S.index F 0 W).printed ≡ H
  pub floor : (run_from P S.index F 0 W).floor ≡ S.floor
  pub rest : drop (run_from P S.index F 0 W).octets W ≡ S.left ++ later
  pub goes : S.state < 2 → (run_from P S.index F 0 W).ended ≡ false
  pub over : S.state ≡ 2 → ((run_from P S.index F 0 W).ended ≡ true) ⊎ (read_at limits W (run_from P S.index F 0 W).octets ≡ end)

-- the same, over every input that begins with B, what the turns brought
pub record Holds (P : Product) (F : Floor) (B H : List ℕ) (S : Stream) : Type 0 where
  pub own : S.product ≡ P
  pub more : S.state ≡ 1 → S.last ≡ false
  pub run : (later : List ℕ) → Behind S later → SoFar P F (B ++ later) H S later
  pub stops : S.state ≡ 2 → OverAt S.last (frame_of limits S.left)

-- before the first read
pub holds_first : (P : Product) (F : Floor) → Holds P F [] [] (begin P F)
unfolding run_from
holds_first P F =
    record {
      own = refl;
      more = λ e. refl;
      run = λ later h. record { count = refl; printed = refl; floor = refl; rest = refl; goes = λ z. refl; over = λ z. absurd (omega arith) };
      stops = λ z. absurd (omega arith);
    }

-- A READ: what it brought was a part of what had not been read
last_empty : (l later : List ℕ) → is_empty l ≡ true → l ≡ []
last_empty [] later e = refl
last_empty (x ∷ l) later e = clash false e refl

module _ (P : Product) (F : Floor) (B H : List ℕ) (S : Stream) (h : Holds P F B H S) (wants : S.state ≡ 1) where
  holds_brought : (l : List ℕ) → Holds P F (B ++ l) H (record { product = S.product; left = S.left ++ l; floor = S.floor; index = S.index; state = 0; last = is_empty l })
  holds_brought l =
      record {
        own = h.own;
        more = λ z. absurd (omega arith);
        run = λ later b.
            let W = B ++ (l ++ later) in
            let s = h.run (l ++ later) (λ t. clash S.last t (h.more wants)) in
            let rest : drop (run_from P S.index F 0 W).octets W ≡ (S.left ++ l) ++ later = s.rest ∙ sym (append_assoc S.left l later) in
            subst (λ (X : List ℕ). SoFar P F X H (record { product = S.product; left = S.left ++ l; floor = S.floor; index = S.index; state = 0; last = is_empty l }) later) (sym (append_assoc B l later))
            (record { count = s.count; printed = s.printed; floor = s.floor; rest = rest; goes = λ z. s.goes (omega arith); over = λ z. absurd (omega arith) });
        stops = λ z. absurd (omega arith);
      }

  holds_failed : Holds P F B H (record { product = S.product; left = S.left; floor = S.floor; index = S.index; state = 3; last = S.last })
  holds_failed =
      record {
        own = h.own;
        more = λ z. absurd (omega arith);
        run = λ later b. let s = h.run later b in record { count = s.count; printed = s.printed; floor = s.floor; rest = s.rest; goes = λ z. absurd (omega arith); over = λ z. absurd (omega arith) };
        stops = λ z. absurd (omega arith);
      }

-- A RUN of the first n frames of what is left
module _ (P : Product) (F : Floor) (B H : List ℕ) (S : Stream) (h : Holds P F B H S) (n why : ℕ) (accepted : Bool) (runs : S.state ≡ 0) (t : Stops S n why) where
  abbrev X : Ran
  X = piece S n

  -- whatever follows, the frames stand
  stood : (later : List ℕ) → Behind S later → run_from S.product n S.floor S.index (S.left ++ later) ≡ X
  stood later b =
      by_test S.last
      (λ y. ap (λ (q : List ℕ). run_from S.product n S.floor S.index (S.left ++ q)) (b y) ∙ ap (run_from S.product n S.floor S.index) (append-nil S.left))
      (λ y. stands S.product n S.floor S.index S.left later t.counted
      (λ ended cut.
      let ends = t.ends (eqb-true why 2 (sym t.ended ∙ ended)) in
      let never : S.last ≡ true = subst (λ (x : Reading). EndsRun S.last x) cut ends refl in
      clash S.last never y))

  abbrev S' : Stream
  S' = record { product = S.product; left = drop X.octets S.left; floor = X.floor; index = S.index + n; state = state_after why S.last accepted; last = S.last }

  further : (later : List ℕ) → Behind S later → SoFar P F (B ++ later) (H ++ X.printed) S' later
  unfolding read_at
  further later b =
      record {
        count = ap (λ (Y : Ran). Y.count) same ∙ sums;
        printed = ap (λ (Y : Ran). Y.printed) same ∙ ap (λ (x : List ℕ). x ++ X.printed) s.printed;
        floor = ap (λ (Y : Ran). Y.floor) same;
        rest = rest;
        goes = λ z. ap (λ (Y : Ran). Y.ended) same ∙ t.ended ∙ ne_eqb why 2 (λ two. goes_why why S.last accepted two z);
        over = λ z. ⊎_elim
            (λ two. inl (ap (λ (Y : Ran). Y.ended) same ∙ t.ended ∙ eq-eqb why 2 two))
            (λ one.
            let none : frame_of limits (drop X.octets S.left) ≡ end = no_octet _ (subst (λ (y : Bool). NoneWhole y (frame_of limits (drop X.octets S.left))) one.1 (t.waits one.0)) in
            inr (ap (frame_of limits) (rest ∙ ap (λ (q : List ℕ). drop X.octets S.left ++ q) (b one.1) ∙ append-nil (drop X.octets S.left)) ∙ none))
            (over_why why S.last accepted t.known z);
      }
    where
      W : List ℕ
      W = B ++ later

      s : SoFar P F W H S later
      s = h.run later b

      R : Ran
      R = run_from P S.index F 0 W

      none_more : 0 + S.index ≡ S.index
      none_more = omega arith

      same : run_from P (S.index + n) F 0 W ≡ joined R X
      same =
          runs_go_on P S.index n F 0 W s.count (s.goes (omega arith))
          ∙ (λ i. joined R (run_from (sym h.own i) n (s.floor i) (none_more i) (s.rest i)))
          ∙ ap (joined R) (stood later b)

      sums : R.count + X.count ≡ S.index + n
      sums = let a = s.count in let c = t.counted in omega arith

      rest : drop (run_from P (S.index + n) F 0 W).octets W ≡ drop X.octets S.left ++ later
      rest =
          ap (λ (Y : Ran). drop Y.octets W) same
          ∙ sym (drop-drop X.octets R.octets W)
          ∙ ap (drop X.octets) s.rest
          ∙ drop-append-le X.octets S.left later (octets_inside S.product n S.floor S.index S.left)

  holds_ran : Holds P F B (H ++ X.printed) S'
  unfolding read_at
  holds_ran =
      record {
        own = h.own;
        more = λ z. (wants_why why S.last accepted t.known z).1;
        run = further;
        stops = λ z. ⊎_elim
            (λ two. over_at_refusal S.last (frame_of limits (drop X.octets S.left)) (t.ends two))
            (λ one. over_at_end S.last (frame_of limits (drop X.octets S.left)) one.1 (no_octet (frame_of limits (drop X.octets S.left)) (subst (λ (y : Bool). NoneWhole y (frame_of limits (drop X.octets S.left))) one.1 (t.waits one.0))))
            (over_why why S.last accepted t.known z);
      }

-- ONE TURN MORE
pub holds_next : (full : Stream → ℕ → Type 0) (P : Product) (F : Floor) (B H : List ℕ) (S : Stream) (m : Turn) → Holds P F B H S → MayBy full S m → Holds P F (B ++ brought_in m) (H ++ handed S m) (after S m)
unfolding after handed MayBy
holds_next full P F B H S (brought l) h may = subst (λ (x : List ℕ). Holds P F (B ++ l) x (after S (brought l))) (sym (append-nil H)) (holds_brought P F B H S h may l)
holds_next full P F B H S failed h may =
    subst (λ (y : List ℕ). Holds P F y (H ++ []) (after S failed)) (sym (append-nil B)) (subst (λ (x : List ℕ). Holds P F B x (after S failed)) (sym (append-nil H)) (holds_failed P F B H S h may))
holds_next full P F B H S (ran n why accepted) h may =
    subst (λ (y : List ℕ). Holds P F y (H ++ (piece S n).printed) (after S (ran n why accepted))) (sym (append-nil B)) (holds_ran P F B H S h n why accepted may.0 may.1)

-- ALL OF THEM
holds_after : (full : Stream → ℕ → Type 0) (P : Product) (F : Floor) (B H : List ℕ) (S : Stream) (ts : List Turn) → Holds P F B H S → TurnsBy full S ts → Holds P F (B ++ brought_by ts) (H ++ handed_by S ts) (stream_after S ts)
unfolding TurnsBy stream_after brought_by handed_by
holds_after full P F B H S [] h made = subst (λ (x : List ℕ). Holds P F (B ++ []) x S) (sym (append-nil H)) (subst (λ (y : List ℕ). Holds P F y H S) (sym (append-nil B)) h)
holds_after full P F B H S (m ∷ ts) h made =
    let S' = after S m in
    let rest = holds_after full P F (B ++ brought_in m) (H ++ handed S m) S' ts (holds_next full P F B H S m h made.0) made.1 in
    subst (λ (x : List ℕ). Holds P F (B ++ (brought_in m ++ brought_by ts)) x (stream_after S' ts)) (append_assoc H (handed S m) (handed_by S' ts))
    (subst (λ (y : List ℕ). Holds P F y ((H ++ handed S m) ++ handed_by S' ts) (stream_after S' ts)) (append_assoc B (brought_in m) (brought_by ts)) rest)

all_hold : (full : Stream → ℕ → Type 0) (P : Product) (F : Floor) (ts : List Turn) → TurnsBy full (begin P F) ts → Holds P F (brought_by ts) (handed_by (begin P F) ts) (stream_after (begin P F) ts)
all_hold full P F ts made = holds_after full P F [] [] (begin P F) ts (holds_first P F) made

pub so_far : (full : Stream → ℕ → Type 0) (P : Product) (F : Floor) (ts : List Turn) → TurnsBy full (begin P F) ts → (later : List ℕ) → Behind (stream_after (begin P F) ts) later
    → SoFar P F (brought_by ts ++ later) (handed_by (begin P F) ts) (stream_after (begin P F) ts) later
so_far full P F ts made = (all_hold full P F ts made).run

-- THE CLAIM
pub stream_is : (P : Product) (F : Floor) → Unstarted F → (ts : List Turn) → Turns (begin P F) ts → StreamIs P F ts
stream_is P F U ts made =
    record {
      whole = λ over later b.
          let s = h.run later b in
          printed_whole P F U S.index (brought_by ts ++ later) s.count (s.over over) ∙ s.printed;
      beginning = λ later b.
          let s = h.run later b in
          let p = printed_begins P F U S.index (brought_by ts ++ later) s.count in
          (p.0, p.1 ∙ ap (λ (x : List ℕ). x ++ p.0) s.printed);
      over = h.stops;
      floor = λ later b. let s = h.run later b in sym s.floor ∙ floor_of_frames P S.index F 0 (brought_by ts ++ later);
    }
  where
    S : Stream
    S = stream_after (begin P F) ts

    h : Holds P F (brought_by ts) (handed_by (begin P F) ts) S
    h = all_hold lines_fill P F ts made
