-- WHAT A DEREGISTER LEAVES at the stations (S, then S'), in the carts (C, then C') and on the lines (W, then W'); M has the messages.
use Rattle.std.specs.Prelude.{◌≡◌, true, cond, List, ℕ, ◌+◌, ◌*◌, eqb, length}
use Rattle.protocol.specs.Folds.{list_of, update}
use Rattle.protocol.specs.CartSets.{without}
use Rattle.protocol.specs.Floor.{travelling}
use Rattle.stations.specs.View.{Stations, stations_in, head_in, with_local}
use Rattle.carts.specs.View.{carts_in, canonical_in, with_place}
use Rattle.messages.specs.View.{rooms_in}
use Rattle.lines.specs.Post.{Pushed, Carried}
use Rattle.view.specs.Records.{words_of}
use Rattle.handoff.specs.Forwarded.{goes, ordered_rooms, ListsGone}

-- other queues
abbrev pub with_queues : Stations → (ℕ → ℕ → ℕ) → Stations
with_queues S queue = record { sent = S.sent; expected = S.expected; local = S.local; copy = S.copy; acks = S.acks; queue = queue }

-- "the cart leaves every queue entry here (emptied entries go)": cart c, at station t
abbrev pub unqueued : Stations → ℕ → ℕ → Stations
unqueued S t c = with_queues S (λ m u. cond (eqb u t) (without (S.queue m u) c) (S.queue m u))

-- "and the local list"
abbrev pub left : Stations → ℕ → ℕ → Stations
left S t c = with_local (unqueued S t c) t (without (S.local t) c)

-- how many lists go once cart c has left
abbrev pub lists_going : List ℕ → List ℕ → ℕ → ℕ → ℕ
lists_going S M t c = length (ordered_rooms M (goes (left (stations_in S) t c) (rooms_in M) t))

-- cart c has left station t for station i; the lists that are complete then have gone, and behind them its register is on the line there, with "the
-- cart's whole row of next numbers"; w records went
pub record Left (S S' C C' M W W' : List ℕ) (c t i w : ℕ) : Type 0 where
  -- the words of the stations once it has left
  pub behind : List ℕ
  pub has_left : stations_in behind ≡ left (stations_in S) t c
  pub behind_head : head_in behind ≡ head_in S
  pub behind_table : length behind ≡ length S
  -- the lines with the lists
  pub lists : List ℕ
  pub sent : ℕ
  pub forwarded : ListsGone behind S' M W lists t (goes (stations_in behind) (rooms_in M) t) sent
  pub carts : carts_in C' ≡ with_place (carts_in C) c (travelling t i)
  pub canonical : canonical_in C' ≡ update (canonical_in C) c true
  pub length : length C' ≡ length C
  -- the lines once its register carries the row
  pub carrying : List ℕ
  pub row : Carried lists carrying c (list_of 16 ((carts_in C).next c))
  pub lines : Pushed carrying W' (t * 16 + i) (words_of 5 c 0 0)
  pub count : w ≡ sent + 1
