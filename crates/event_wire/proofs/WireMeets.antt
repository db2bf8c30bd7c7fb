-- A RECORD OFF ITS LINE MEETS THE WIRE EVENT, kind by kind: what the code asks of the step of that kind, and what it leaves.
use mathlib.Core.Path.{◌≡◌, refl, sym, ap, ◌∙◌, subst}
use mathlib.Core.Bool.{true, false}
use mathlib.Core.List.{List, [], ◌∷◌, map}
use Prim.Native.Nat.{ℕ, ◌+◌, ◌*◌, ◌≤◌, ◌<◌}
use native.Mathlib.Omega.{arith}
use lib.Dec.{eqb}
use lib.ListN.{length, drop}
use borrow.Author.Tests.{lt-leb, ne_eqb}
use Rattle.protocol.specs.Folds.{list_of}
use Rattle.protocol.specs.CartSets.{has, union}
use Rattle.protocol.specs.Floor.{Product, limits_of, Floor, Record, deregister, register, leaving}
use Rattle.protocol.specs.Events.{wire}
use Rattle.protocol.specs.Wired.{on_wire}
use Rattle.protocol.specs.Refusals.{refusal, refusal_if}
use Rattle.protocol.specs.Step.{accept}
use Rattle.protocol.proofs.Accepted.{MayWire}
use Rattle.stations.specs.View.{HasHead, HasStation, head_in, stations_in, naming_in}
use Rattle.carts.specs.Words.{HasRow}
use Rattle.carts.specs.View.{carts_in}
use Rattle.messages.specs.View.{HasRoom, rooms_in}
use Rattle.lines.specs.declared.Record as word
use Rattle.lines.specs.Form.{form}
use Rattle.lines.specs.Lines.{records_on, used, registers_in}
use Rattle.lines.specs.Words.{capacity}
use Rattle.view.specs.Records.{kind_of, index_of, number_of, record_in}
use Rattle.view.specs.View.{Lent, lent, floor_in}
use Rattle.view.proofs.Standing.{Standing, standing}
use Rattle.queue.specs.Rooms.{room_count, HasRooms}
use Rattle.wired_records.specs.Handled.{Buffered, Deleted, Acknowledged}
use Rattle.wired_records.proofs.Head.{line_head}
use Rattle.wired_records.proofs.Asks as asks
use Rattle.wired_records.proofs.MulticastIs.{multicast_is, multicast_report}
use Rattle.wired_records.proofs.AckListIs.{ack_list_is, ack_list_report}
use Rattle.wired_records.proofs.DeleteIs.{delete_is, delete_report}
use Rattle.handoff.specs.Forwarded.{HeldRooms}
use Rattle.handoff.specs.Left.{lists_going, Left}
use Rattle.handoff.specs.Arrived.{Arrived}
use Rattle.handoff.proofs.DeregisterIs.{deregister_ready, register_has_room, deregister_is, deregister_reports}
use Rattle.handoff.proofs.RegisterIs.{register_ready, register_fits, register_rooms, register_is, register_reports}
use Rattle.reports.specs.declared.Effect.{Effect}
use Rattle.reports.specs.Effects.{nothing, putting, queueing}
use Rattle.event_answers.specs.Answers.{says}
use Rattle.event_answers.specs.Met.{Met}
use Rattle.event_answers.proofs.Meets.{meets_done, meets_counted}
use Rattle.event_wire.specs.Off.{TakenOff}

module _ (P : Product) (S C M W W₁ T O : List ℕ) (i j : ℕ) (said : word.Record) (off : TakenOff P S C M W W₁ T O i j said) where
  abbrev L : Lent
  L = lent P S C M W T O

  abbrev F : Floor
  F = floor_in L

  abbrev m : ℕ
  m = index_of said.0

  abbrev n : ℕ
  n = number_of said.0

  -- what is left on the line
  abbrev rest : List word.Record
  rest = drop 1 (records_on W (i * 16 + j))

  X : Standing L
  X = standing L off.passes

  -- the floor's own row is there
  pub has_head : HasHead S
  has_head = let a = X.lengths.stations in omega arith

  on_line : F.lines i j ≡ record_in (registers_in W) said ∷ map (record_in (registers_in W)) rest
  on_line = line_head L X i j off.from off.to said rest off.top

  passes : refusal (limits_of P) F (wire i j) ≡ 0
  unfolding refusal refusal_if
  passes = rw (off.passes, lt-leb F.stations i off.from, lt-leb F.stations j off.to, on_line) refl

  -- the step of its kind is the event, with what it counted
  meets : (L' : Lent) (kind x : ℕ) (f g : Effect) → L'.product ≡ P → f ≡ g → floor_in L' ≡ (on_wire (limits_of P) F i j).floor
      → (on_wire (limits_of P) F i j).report ≡ record { kind = 3; a = kind; b = x; p = g.passed; w = g.records; q = g.place; text = [] } → Met L L' (wire i j) (says 3 kind x f)
  unfolding accept
  meets L' kind x f g same counted floor report =
      meets_counted L L' (wire i j) 3 kind x f g counted (meets_done L (wire i j) L' _ same passes floor (sym report))

  -- A MULTICAST; x is the number that the code read
  pub multicast_asks : kind_of said.0 ≡ 1
      → (HasStation S j × (i < 16) × ((stations_in S).expected j i < 4294967296)) × (((c : ℕ) → has ((stations_in S).local j) c ≡ true → HasRow C c) × HasRoom M m × (m < 32) × (n < 4294967296) × HasRooms M)
  multicast_asks k = asks.multicast_asks S C M W W₁ T O X i j off.from off.to said rest off.top off.popped k

  pub meets_multicast : kind_of said.0 ≡ 1 → (S' C' : List ℕ) (x : ℕ) (f : Effect) → x ≡ n → Buffered S S' C C' M ((stations_in S).local j) m n i j f.passed f.place → f ≡ queueing f.passed f.place
      → Met L (lent P S' C' M W₁ T O) (wire i j) (says 3 1 x f)
  meets_multicast k S' C' x f e b counted =
      meets (lent P S' C' M W₁ T O) 1 x f (queueing f.passed f.place) refl counted
      (multicast_is S S' C C' M W W₁ T O X i j off.from off.to said rest off.top k off.popped f.passed f.place b)
      (rw e (multicast_report S S' C C' M W W₁ T O X i j off.from off.to said rest off.top k off.popped f.passed f.place b))

  -- AN ACK LIST; y is how many stations the code read
  pub ack_list_asks : kind_of said.0 ≡ 2 → (y : ℕ) → y ≡ (head_in S).stations
      → (HasRoom M m × (m < 32) × (n < 4294967296)) × (((j < 16) × (y ≤ 16) × (form W₁ ≡ true))
      × (union ((rooms_in M).acked m) said.1 ≡ (rooms_in M).named m → used W₁ + y ≤ capacity W₁))
  ack_list_asks k y e = rw e (asks.ack_list_asks S C M W W₁ T O X i j off.from off.to said rest off.top off.popped k)

  pub meets_ack_list : kind_of said.0 ≡ 2 → (M' W' : List ℕ) (x y : ℕ) (f : Effect) → x ≡ n → y ≡ (head_in S).stations
      → Acknowledged M M' W₁ W' m n said.1 j y f.records → f ≡ putting f.records → Met L (lent P S C M' W' T O) (wire i j) (says 3 2 x f)
  meets_ack_list k M' W' x y f e count b counted =
      let b' : Acknowledged M M' W₁ W' m n said.1 j (head_in S).stations f.records = subst (λ (z : ℕ). Acknowledged M M' W₁ W' m n said.1 j z f.records) count b in
      meets (lent P S C M' W' T O) 2 x f (putting f.records) refl counted
      (ack_list_is S C M W W₁ T O X i j off.from off.to said rest off.top k off.popped M' W' f.records b')
      (rw e (ack_list_report S C M W W₁ T O X i j off.from off.to said rest off.top k off.popped M' W' f.records b'))

  -- A DELETE
  pub delete_asks : kind_of said.0 ≡ 3 → HasRoom M m × (j < 16)
  delete_asks k = asks.delete_asks S C M W W₁ T O X i j off.from off.to said rest off.top off.popped k

  pub meets_delete : kind_of said.0 ≡ 3 → (M' : List ℕ) (x : ℕ) (f : Effect) → x ≡ n → Deleted M M' m j → f ≡ nothing
      → Met L (lent P S C M' W₁ T O) (wire i j) (says 3 3 x f)
  meets_delete k M' x f e b counted =
      meets (lent P S C M' W₁ T O) 3 x f nothing refl counted (delete_is S C M M' W W₁ T O X i j off.from off.to said rest off.top k off.popped b)
      (rw e (delete_report S C M M' W W₁ T O X i j off.from off.to said rest off.top k off.popped b))

  -- a record of a cart that the code read as x
  module _ (x : ℕ) (is : x ≡ m) where
    abbrev left : List Record
    left = map (record_in (registers_in W)) rest

    -- A DEREGISTER
    says_deregister : kind_of said.0 ≡ 4 → record_in (registers_in W) said ≡ deregister x
    unfolding record_in
    says_deregister k = rw (k, is) refl

    may_deregister : kind_of said.0 ≡ 4 → MayWire F i j (deregister x) left
    may_deregister k = record { from = off.from; to = off.to; line = on_line ∙ ap (λ (r : Record). r ∷ left) (says_deregister k) }

    pub deregister_asks : kind_of said.0 ≡ 4
        → (HasStation S j × HasRow C x × (x < 64) × ((carts_in C).place x ≡ leaving j i) × HeldRooms M) × ((form W₁ ≡ true) × (used W₁ + lists_going S M j x < capacity W₁) × (j < 16) × (i < 16))
    deregister_asks k = (deregister_ready L X x i j left (may_deregister k), register_has_room L X x i j left (may_deregister k) W₁ off.popped)

    pub meets_deregister : kind_of said.0 ≡ 4 → (S' C' W' : List ℕ) (f : Effect) → Left S S' C C' M W₁ W' x j i f.records → f ≡ putting f.records
        → Met L (lent P S' C' M W' T O) (wire i j) (says 3 4 x f)
    meets_deregister k S' C' W' f b counted =
        meets (lent P S' C' M W' T O) 4 x f (putting f.records) refl counted
        (deregister_is S S' C C' M W W₁ W' T O x i j f.records left X (may_deregister k) off.popped b)
        (deregister_reports S S' C C' M W W₁ W' T O x i j f.records left X (may_deregister k) off.popped b)

    -- A REGISTER: what is none of the other four
    module _ (n1 : kind_of said.0 ≡ 1 → ⊥) (n2 : kind_of said.0 ≡ 2 → ⊥) (n3 : kind_of said.0 ≡ 3 → ⊥) (n4 : kind_of said.0 ≡ 4 → ⊥) where
      differs : (t : ℕ) → (kind_of said.0 ≡ t → ⊥) → eqb (kind_of said.0) t ≡ false
      differs t q = ne_eqb (kind_of said.0) t q

      -- the row that it carries
      abbrev row : List ℕ
      row = list_of 16 (registers_in W x)

      says_register : record_in (registers_in W) said ≡ register x row
      unfolding record_in
      says_register = rw (differs 1 n1, differs 2 n2, differs 3 n3, differs 4 n4, is) refl

      may_register : MayWire F i j (register x row) left
      may_register = record { from = off.from; to = off.to; line = on_line ∙ ap (λ (r : Record). r ∷ left) says_register }

      pub register_asks : (HasStation S j × HasRow C x × HasRooms M × (j < 16) × (x < 64)) × (((s : ℕ) → s < 16 → (stations_in S).expected j s ≤ 4294967295) × ((m : ℕ) → has (naming_in (stations_in S) j x) m ≡ true → m < room_count M))
      register_asks = (register_ready L X x i j row left may_register, (register_fits L X x i j row left may_register, register_rooms L X x i j row left may_register))

      -- what is asked to read it
      pub row_asks : (x < 64) × (1842 ≤ length W₁)
      row_asks = (register_asks.0.4, let a = X.lengths.lines in let b = off.popped.words in omega arith)

      -- where the code read it, once the record is off its line
      pub meets_register : (S' C' r : List ℕ) (f : Effect) → r ≡ list_of 16 (registers_in W₁ x) → Arrived S S' C C' M j x r f.passed f.place → f ≡ queueing f.passed f.place
          → Met L (lent P S' C' M W₁ T O) (wire i j) (says 3 5 x f)
      meets_register S' C' r f e b counted =
          let same : r ≡ row = e ∙ ap (λ (g : ℕ → ℕ → ℕ). list_of 16 (g x)) off.popped.registers in
          let b' : Arrived S S' C C' M j x row f.passed f.place = subst (λ (z : List ℕ). Arrived S S' C C' M j x z f.passed f.place) same b in
          meets (lent P S' C' M W₁ T O) 5 x f (queueing f.passed f.place) refl counted
          (register_is S S' C C' M W W₁ T O x i j f.passed f.place row left X may_register off.popped b')
          (register_reports S S' C C' M W W₁ T O x i j f.passed f.place row left X may_register off.popped b')
