-- ACK LISTS ON THE LINES, one behind the other: what they are in the floor, that the words lie right again, and how many there are.
use mathlib.Core.Path.{◌≡◌, sym, ap, ap₂, ◌∙◌, subst}
use mathlib.Core.Bool.{Bool, true, false}
use mathlib.Core.List.{List, [], ◌∷◌}
use Prim.Native.Nat.{ℕ, ◌+◌, ◌<◌, ◌≤◌}
use native.Mathlib.Omega.{arith}
use lib.Dec.{eqb}
use lib.ListN.{length}
use Rattle.protocol.specs.Floor.{Product, Floor, Record, ack_list, put, between, on_the_lines}
use Rattle.protocol.specs.Wireless.{send_acks}
use Rattle.protocol.specs.Form.{handoffs}
use Rattle.protocol.proofs.Tests.{on_cond, eqb_self}
use Rattle.protocol.proofs.Updates.{append-nil, handoffs_append}
use Rattle.protocol.proofs.InOrder.{EachOf, send_each, lists_on}
use Rattle.stations.specs.View.{Stations}
use Rattle.messages.specs.View.{Rooms, rooms_in}
use Rattle.lines.specs.Lines.{registers_in}
use Rattle.view.specs.Records.{record_in, lines_in, words_of, is_in}
use Rattle.view.specs.View.{lent}
use Rattle.view.proofs.LinesView.{push_view}
use Rattle.view.proofs.Laid.{Laid, laid_push}
use Rattle.view.proofs.Registers.{NoRegister}
use Rattle.view.proofs.RecordWords.{ack_list_is, ack_list_right}
use Rattle.view.proofs.Room.{put_counts}
use Rattle.view.proofs.Standing.{one_line_counts}
use Rattle.handoff.specs.Forwarded.{PushedEach}

-- the message in room m is held, and its initiator has a line
pub record Sends (R : Rooms) (m : ℕ) : Type 0 where
  pub room : m < 32
  pub initiator : R.initiator m < 16
  pub held : eqb (R.waiting m) 0 ≡ false

module _ (X : Stations) (R : Rooms) (t : ℕ) (lt : t < 16) where
  -- in the floor, where these are the lists
  pub lists_view : (G : Floor) → G.initiator ≡ R.initiator → G.number ≡ R.number → ((m : ℕ) → X.acks m t ≡ G.acks m t) → (l : List ℕ) → EachOf (Sends R) l
      → (W W' : List ℕ) → PushedEach X R t l W W' → lines_in W' ≡ lists_on G t l (lines_in W)
  lists_view G a b e [] s W W' p = ap lines_in p
  lists_view G a b e (m ∷ l) s W W' p =
      let one = s.0 in
      let first = push_view W p.0 t (R.initiator m) (words_of 2 m (R.number m) (X.acks m t)) lt one.initiator p.1.0 in
      let said : first_list m W ≡ ack_list (R.number m) (X.acks m t) = ack_list_is (registers_in W) m (R.number m) (X.acks m t) (let z = one.room in omega arith) in
      lists_view G a b e l s.1 p.0 W' p.1.1
      ∙ ap (lists_on G t l)
      (first ∙ ap₂ (λ (s : ℕ) (r : Record). put (between t s) r (lines_in W)) (ap (λ (f : ℕ → ℕ). f m) (sym a)) (said ∙ ap₂ ack_list (ap (λ (f : ℕ → ℕ). f m) (sym b)) (e m)))
    where
      first_list : ℕ → List ℕ → Record
      first_list m W = record_in (registers_in W) (words_of 2 m (R.number m) (X.acks m t))

-- the words lie right again
pub laid_lists : {P : Product} (X : Stations) (S C M T O : List ℕ) (t : ℕ) → t < 16 → (l : List ℕ) → EachOf (Sends (rooms_in M)) l → (W W' : List ℕ) → PushedEach X (rooms_in M) t l W W'
    → Laid (lent P S C M W T O) → Laid (lent P S C M W' T O)
laid_lists {P} X S C M T O t lt [] s W W' p laid = subst (λ (Y : List ℕ). Laid (lent P S C M Y T O)) (sym p) laid
laid_lists {P} X S C M T O t lt (m ∷ l) s W W' p laid =
    let one = s.0 in
    let R = rooms_in M in
    let in_room_lem : is_in R (R.initiator m) (R.number m) m ≡ true = rw (one.held, eqb_self (R.initiator m), eqb_self (R.number m)) in
    laid_lists X S C M T O t lt l s.1 p.0 W' p.1.1
    (laid_push S C M W T O laid p.0 t (R.initiator m) (words_of 2 m (R.number m) (X.acks m t)) lt one.initiator p.1.0
    (ack_list_right R t (R.initiator m) m (R.number m) (X.acks m t) (let z = one.room in omega arith) in_room_lem))

-- no list is a register
none_with_list : (c n x : ℕ) (on : ℕ → ℕ → Bool) (lines : ℕ → ℕ → List Record) (a b : ℕ) → NoRegister (handoffs c (lines a b)) → NoRegister (handoffs c (put on (ack_list n x) lines a b))
none_with_list c n x on lines a b h =
    on_cond (λ (l : List Record). NoRegister (handoffs c l)) (on a b)
    (λ e. subst NoRegister (sym (handoffs_append c (lines a b) (ack_list n x ∷ []) ∙ append-nil (handoffs c (lines a b)))) h) (λ e. h)

pub none_with_lists : (c : ℕ) (G : Floor) (t : ℕ) (l : List ℕ) (lines : ℕ → ℕ → List Record) → ((a b : ℕ) → NoRegister (handoffs c (lines a b))) → (a b : ℕ) → NoRegister (handoffs c (lists_on G t l lines a b))
none_with_lists c G t [] lines h a b = h a b
none_with_lists c G t (m ∷ l) lines h a b =
    none_with_lists c G t l (put (between t (G.initiator m)) (ack_list (G.number m) (G.acks m t)) lines) (λ a b. none_with_list c (G.number m) (G.acks m t) (between t (G.initiator m)) lines a b (h a b)) a b

-- as many records more as lists
pub lists_count : (n : ℕ) (G : Floor) (t : ℕ) (l : List ℕ) → t < n → EachOf (λ m. G.initiator m < n) l → on_the_lines n G.lines + length l ≤ on_the_lines n (send_each G t l).lines
unfolding send_each send_acks
lists_count n G t [] lt s = omega arith
lists_count n G t (m ∷ l) lt s =
    let a = lists_count n (send_acks G m t) t l lt s.1 in
    let b = put_counts n (between t (G.initiator m)) (ack_list (G.number m) (G.acks m t)) G.lines in
    let d = one_line_counts n t (G.initiator m) lt s.0 in
    omega arith
