-- WHAT THE FORM TEST ASKS OF THE TABLES: the clauses of the form rule that look at no record on a line and at no text.
use Rattle.std.specs.Prelude.{◌≡◌, not, List, [], ℕ, ◌+◌, ◌*◌, ◌≤◌, ◌^◌, length}
use Rattle.protocol.specs.CartSets.{has}
use Rattle.protocol.specs.Floor.{whole_floor, Limits, Floor, limits, is_held}
use Rattle.protocol.specs.Claims.{Claim, is, le, lt, eq, both, when, all}
use Rattle.protocol.specs.Form.{station_rule, cart_rule, carts_only, entry_rule}
use Rattle.stations.specs.View.{head_in, stations_in}
use Rattle.carts.specs.View.{canonical_in}
use Rattle.messages.specs.View.{rooms_in}
use Rattle.store.specs.Layout.{layout_rule}
use Rattle.view.specs.View.{lent, floor_in, local_right}

-- the floor that the three tables say, with nothing on its lines and no texts
abbrev pub tables : List ℕ → List ℕ → List ℕ → Floor
tables stations carts messages = floor_in (lent whole_floor stations carts messages [] [] [])

-- they have rows for n stations, k carts and h rooms
pub record Sized (n k h : ℕ) (S C M : List ℕ) : Type 0 where
  pub stations : length S ≡ 116 + n * 116
  pub carts : length C ≡ k * 19
  pub messages : length M ≡ h * 7

-- and for the floor's own stations and carts
pub record OnTables (S C : List ℕ) : Type 0 where
  pub rows : ℕ
  pub whole : length S ≡ 116 + rows * 116
  pub few : rows ≤ 16
  pub stations : (head_in S).stations ≤ rows
  pub carts : (head_in S).carts * 19 ≤ length C

-- THE WHOLE FLOOR: "An unstarted floor fails it", and it has 1 to n stations, 1 to k carts
abbrev pub counts_rule : ℕ → ℕ → Floor → Claim
counts_rule n k F =
    both (is F.started)
    (both (both (lt 0 F.stations) (le F.stations n)) (both (lt 0 F.carts) (le F.carts k)))

-- EACH ROOM m: its sets are of the floor
abbrev pub room_sets : Floor → ℕ → Claim
room_sets F m =
    both (carts_only limits F (F.named m)) (both (carts_only limits F (F.acked m)) (lt (F.waiting m) (2 ^ F.stations)))

-- EACH HELD MESSAGE, in room m: no other held message, in any of h rooms, has its name
abbrev pub other_names : ℕ → Floor → ℕ → Claim
other_names h F m = all h (λ k. when (is (is_held F k)) (when (eq (F.initiator m) (F.initiator k)) (when (eq (F.number m) (F.number k)) (eq m k))))

-- its initiator has given its number
abbrev pub number_given : Floor → ℕ → Claim
number_given F m = lt (F.number m) (F.sent (F.initiator m))

-- where a station has handled its delete, the whole set has acknowledged
abbrev pub delete_right : Floor → ℕ → Claim
delete_right F m = all F.stations (λ t. when (is (not (has (F.waiting m) t))) (eq (F.acked m) (F.named m)))

-- all of this, where it is held
abbrev pub held_names : ℕ → Floor → ℕ → Claim
held_names h F m = when (is (is_held F m)) (both (number_given F m) (both (other_names h F m) (delete_right F m)))

-- EACH HELD MESSAGE AT EACH STATION t OF THE FLOOR: the copy has only named carts
abbrev pub copy_named : Floor → ℕ → ℕ → Claim
copy_named F m t = all F.carts (λ c. when (is (has (F.copy m t) c)) (is (has (F.named m) c)))

-- and where the message has come, it has every named cart that has yet to receive it
abbrev pub copy_sets : Floor → ℕ → ℕ → Claim
copy_sets F m t =
    both (copy_named F m t)
    (when (lt (F.number m) (F.expected t (F.initiator m)))
    (all F.carts (λ c. when (is (has (F.named m) c)) (when (le (F.next c (F.initiator m)) (F.number m)) (is (has (F.copy m t) c))))))

-- at every station, where the message is held
abbrev pub copies_rule : Floor → ℕ → Claim
copies_rule F m = when (is (is_held F m)) (all F.stations (copy_sets F m))

-- AT EACH STATION t: no room from h on has a copy or a queue entry
abbrev pub rooms_end : ℕ → List ℕ → ℕ → Claim
rooms_end h S t = all 32 (λ m. when (le h m) (both (eq ((stations_in S).copy m t) 0) (eq ((stations_in S).queue m t) 0)))

-- ALL OF IT, of three tables with rows for n stations, k carts and h rooms: the messages' says where the long texts lie. Of the limits, only the last
-- number is asked for
abbrev pub tables_rule : Limits → ℕ → ℕ → ℕ → List ℕ → List ℕ → List ℕ → Claim
tables_rule N n k h S C M =
    both (counts_rule n k (tables S [] []))
    (both (all n (station_rule N (tables S [] [])))
    (both (all k (λ c. is (canonical_in C c)))
    (both (layout_rule h (rooms_in M))
    (both (all n (λ t. is (local_right (lent whole_floor S C [] [] [] []) t)))
    (both (all k (cart_rule limits (tables S C [])))
    (both (all h (room_sets (tables S [] M)))
    (both (all h (held_names h (tables S [] M)))
    (both (all h (λ m. all n (entry_rule limits (tables S C M) m)))
    (both (all h (copies_rule (tables S C M)))
    (all n (rooms_end h S)))))))))))
