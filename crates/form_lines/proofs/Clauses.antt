-- WHAT THE PASS IS ABOUT: the clauses of the form rule that look at the lines, and those over the tables alone that it builds on.
use mathlib.Core.Path.{◌≡◌}
use mathlib.Core.Bool.{true}
use Prim.Native.Nat.{ℕ, ◌≤◌, ◌<◌}
use Rattle.protocol.specs.Floor.{limits_of, is_held}
use Rattle.protocol.specs.Claims.{True}
use Rattle.protocol.specs.Form.{cart_rule, room_rule, entry_rule, line_rule, order_rule, handoff_rule, ack_rule, is_delete_of, count_line}
use Rattle.view.specs.View.{Lent, line_right, floor_in}
use Rattle.view.proofs.Lengths.{Lengths}

module _ (L : Lent) where
  -- the clauses over the tables
  pub record TableClauses : Type 0 where
    pub lengths : Lengths L
    pub stations : (floor_in L).stations ≤ 16
    pub carts : (floor_in L).carts ≤ 64
    pub on_stations_lem : (floor_in L).stations ≤ L.product.stations
    pub on_carts_lem : (floor_in L).carts ≤ L.product.carts
    pub cart : (c : ℕ) → c < L.product.carts → True (cart_rule (limits_of L.product) (floor_in L) c)
    pub room : (m : ℕ) → m < L.product.held → True (room_rule (limits_of L.product) (floor_in L) m)
    -- no other held message has the name of one
    pub names : (m : ℕ) → m < L.product.held → is_held (floor_in L) m ≡ true → (k : ℕ) → k < L.product.held → is_held (floor_in L) k ≡ true
        → (floor_in L).initiator m ≡ (floor_in L).initiator k → (floor_in L).number m ≡ (floor_in L).number k → m ≡ k
    pub entry : (m : ℕ) → m < L.product.held → (t : ℕ) → t < L.product.stations → True (entry_rule (limits_of L.product) (floor_in L) m t)

  -- and those over the lines
  pub record LineClauses : Type 0 where
    -- every record says its room right
    pub rooms : (i : ℕ) → i < 16 → (j : ℕ) → j < 16 → line_right L i j ≡ true
    pub line : (i : ℕ) → i < 16 → (j : ℕ) → j < 16 → True (line_rule (limits_of L.product) (floor_in L) i j)
    pub order : (i : ℕ) → i < 16 → (j : ℕ) → j < (floor_in L).stations → True (order_rule (limits_of L.product) (floor_in L) i j)
    pub handoff : (c : ℕ) → c < L.product.carts → (i : ℕ) → i < (floor_in L).stations → (j : ℕ) → j < (floor_in L).stations → True (handoff_rule (limits_of L.product) (floor_in L) c i j)
    -- of the rule of held messages
    pub acks : (m : ℕ) → m < L.product.held → is_held (floor_in L) m ≡ true → (c : ℕ) → c < (floor_in L).carts → True (ack_rule (limits_of L.product) (floor_in L) m c)
    -- of the rule of copies
    pub deletes : (m : ℕ) → m < L.product.held → is_held (floor_in L) m ≡ true → (t : ℕ) → t < (floor_in L).stations
        → count_line (is_delete_of ((floor_in L).number m)) ((floor_in L).lines ((floor_in L).initiator m) t) ≤ 1
