-- WHAT THE WORDS OF A RECORD SAY: its message with the room that it names, or its cart.
use Rattle.std.specs.Prelude.{cond, List, map, ℕ, ◌+◌, ◌*◌, eqb}
use Rattle.lines.specs.declared.Record as word
use Rattle.lines.specs.Lines.{records_on}
use Rattle.view.specs.Records.{kind_of, index_of, number_of}

-- the five records, and words that are none
pub data Said : Type 0 where
  a_multicast : (room number : ℕ) → Said
  an_ack_list : (room number carts : ℕ) → Said
  a_delete : (room number : ℕ) → Said
  a_deregister : (cart : ℕ) → Said
  a_register : (cart : ℕ) → Said
  unknown : (index : ℕ) → Said

-- "multicast (1), ack list (2), delete (3), deregister (4), register (5)"
unfoldable pub said : word.Record → Said
said r =
    let kind = kind_of r.0 in
    let x = index_of r.0 in
    let n = number_of r.0 in
    cond (eqb kind 1) (a_multicast x n)
    (cond (eqb kind 2) (an_ack_list x n r.1)
    (cond (eqb kind 3) (a_delete x n)
    (cond (eqb kind 4) (a_deregister x)
    (cond (eqb kind 5) (a_register x) (unknown x)))))

-- the line from i to j, head first
unfoldable pub said_on : List ℕ → ℕ → ℕ → List Said
said_on words i j = map said (records_on words (i * 16 + j))
