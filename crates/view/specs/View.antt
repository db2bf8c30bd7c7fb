-- THE FLOOR THAT THE LENT PARTS SAY: stations, carts, messages, lines (numbers), texts and store (octets).
use Rattle.std.specs.Prelude.{Bool, true, ◌&&◌, ◌||◌, List, [], ◌∷◌, ℕ, ◌+◌, ◌*◌, eqb, ltb, length}
use Rattle.protocol.specs.Folds.{every}
use Rattle.protocol.specs.CartSets.{set_of}
use Rattle.protocol.specs.Floor.{Product, limits_of, most_records, Floor, Carts, Record, local_to}
use Rattle.protocol.specs.Claims.{test}
use Rattle.stations.specs.View.{Head, Stations, stations_in, head_in}
use Rattle.carts.specs.View.{carts_in, canonical_in}
use Rattle.messages.specs.View.{Rooms, rooms_in}
use Rattle.store.specs.Texts.{text_of}
use Rattle.store.specs.Layout.{size, layout_rule}
use Rattle.lines.specs.declared.Record as word
use Rattle.lines.specs.Lines.{records_on}
use Rattle.lines.specs.Form.{form}
use Rattle.view.specs.Records.{lines_in, room_right}

-- the lent parts, and whose limits they are lent for
pub record Lent : Type 0 where
  pub product : Product
  pub stations : List ℕ
  pub carts : List ℕ
  pub messages : List ℕ
  pub lines : List ℕ
  pub texts : List ℕ
  pub store : List ℕ

abbrev pub lent : Product → List ℕ → List ℕ → List ℕ → List ℕ → List ℕ → List ℕ → Lent
lent product stations carts messages lines texts store =
    record { product = product; stations = stations; carts = carts; messages = messages; lines = lines; texts = texts; store = store }

-- "a lent part of the floor has the wrong length" is no: the floor's own row and one for each station, of 116 words; a row of 19 for each
-- cart; of 7 for each held message, and 32 octets of text; 1,842 words, and a row of 3 for each record on the lines; "one store of 4,096 octets"
unfoldable pub lengths_in : Lent → Bool
lengths_in L =
    let P = L.product in
    eqb (length L.stations) (116 + P.stations * 116)
    && (eqb (length L.carts) (P.carts * 19) && (eqb (length L.messages) (P.held * 7) && (eqb (length L.lines) (1842 + most_records (limits_of P) * 3)
    && (eqb (length L.texts) (P.held * 32) && eqb (length L.store) size))))

-- the mask of the local carts at station t is right
unfoldable pub local_right : Lent → ℕ → Bool
local_right L t = eqb ((stations_in L.stations).local t) (set_of 64 (λ c. local_to ((carts_in L.carts).place c) t))

-- no copy and no queue entry at station t is of a room that the messages' table does not have
unfoldable pub rooms_right : Lent → ℕ → Bool
rooms_right L t =
    every 32 (λ m. ltb m L.product.held || (eqb ((stations_in L.stations).copy m t) 0 && eqb ((stations_in L.stations).queue m t) 0))

-- does every record of a list pass
abbrev pub every_word : (word.Record → Bool) → List word.Record → Bool
every_word f [] = true
every_word f (r ∷ l) = f r && every_word f l

-- every record on the line from i to j says its room right
unfoldable pub line_right : Lent → ℕ → ℕ → Bool
line_right L i j = every_word (room_right (rooms_in L.messages) i j) (records_on L.lines (i * 16 + j))

-- the words are such as the layout has: the chains of records are whole, places and flags stand in their own words, masks and rooms are right, long
-- texts lie right in the store
unfoldable pub words_in : Lent → Bool
words_in L =
    form L.lines
    && (every L.product.carts (canonical_in L.carts) && (every L.product.stations (local_right L) && (test (layout_rule L.product.held (rooms_in L.messages))
    && (every 16 (λ i. every 16 (line_right L i)) && every L.product.stations (rooms_right L)))))

-- the floor of these parts, with its two marks of the lent memory
abbrev pub floor_of : Bool → Bool → Head → Stations → Carts → Rooms → (ℕ → List ℕ) → (ℕ → ℕ → List Record) → Floor
floor_of lengths words H S C R text lines =
    record {
      lengths_right = lengths;
      words_right = words;
      started = eqb H.mark 1;
      stations = H.stations;
      carts = H.carts;
      groups = H.groups;
      sent = S.sent;
      expected = S.expected;
      place = C.place;
      next = C.next;
      steady = C.steady;
      initiator = R.initiator;
      number = R.number;
      named = R.named;
      text = text;
      acked = R.acked;
      waiting = R.waiting;
      copy = S.copy;
      acks = S.acks;
      queue = S.queue;
      lines = lines;
    }

-- THE FLOOR
abbrev pub floor_in : Lent → Floor
floor_in L =
    let R = rooms_in L.messages in
    floor_of (lengths_in L) (words_in L) (head_in L.stations) (stations_in L.stations) (carts_in L.carts) R (text_of L.texts L.store R) (lines_in L.lines)
