-- WHAT A SEND LEAVES: message `number` of station s, with its set and text, in room m, on a floor of n stations.
use Rattle.std.specs.Prelude.{◌≡◌, true, List, ℕ, suc, ◌+◌, ◌≤◌, ◌<◌, length}
use Rattle.std.proofs.Math.Seq.{paste}
use Rattle.protocol.specs.CartSets.{set_of}
use Rattle.stations.specs.View.{head_in, stations_in, with_sent}
use Rattle.messages.specs.View.{rooms_in, with_message}
use Rattle.messages.specs.Texts.{longest, text_in}
use Rattle.store.specs.Layout.{long, size, used_in}
use Rattle.store.specs.Moved.{Laid, Made}
use Rattle.view.specs.Records.{words_of}
use Rattle.wired_lines.specs.ToEvery.{PushedToEvery}
use Rattle.wired_send.specs.Copies.{without_copies}

-- the message and its text, in the messages (M, then M') and in the texts (T, then T')
pub record Kept (M M' T T' : List ℕ) (m s n number set : ℕ) (text : List ℕ) : Type 0 where
  pub rooms : rooms_in M' ≡ with_message (rooms_in M) m s number set (set_of n (λ t. true)) (length text) 0
  pub words : length M' ≡ length M
  pub here : text_in T' (length text) m ≡ text
  pub others : (k octets : ℕ) → (k ≡ m → ⊥) → octets ≤ longest → text_in T' octets k ≡ text_in T octets k
  pub octets : length T' ≡ length T

-- the text is long, and the store O has as many octets free, counted together, beside the texts of h rooms
pub record CanStore (h : ℕ) (M O text : List ℕ) : Type 0 where
  pub laid : Laid h M
  pub whole : length O ≡ size
  pub above : longest < length text
  pub below : length text ≤ long
  pub free : used_in h (rooms_in M) + length text ≤ size

-- the message and its long text, in the messages and in the store (O, then O'): room is made for it, and it is put there
pub record KeptLong (h : ℕ) (M M' O O' : List ℕ) (m s n number set : ℕ) (text : List ℕ) : Type 0 where
  -- messages and store once room is made, and where
  pub messages : List ℕ
  pub store : List ℕ
  pub place : ℕ
  pub made : Made h (length text) M O messages store place
  pub put : O' ≡ paste store place text (length text)
  pub rooms : rooms_in M' ≡ with_message (rooms_in messages) m s number set (set_of n (λ t. true)) (length text) place
  pub words : length M' ≡ length messages

-- the rest of the step, in the stations (S, then S') and on the lines (W, then W'): no station has a copy of the message yet, the station's number
-- rises, and a multicast is on the line to every station
pub record Announced (S S' W W' : List ℕ) (m s n number : ℕ) : Type 0 where
  pub stations : stations_in S' ≡ with_sent (without_copies (stations_in S) m) s (suc number)
  pub top : head_in S' ≡ head_in S
  pub words : length S' ≡ length S
  pub lines : PushedToEvery W W' s n (words_of 1 m number 0)
