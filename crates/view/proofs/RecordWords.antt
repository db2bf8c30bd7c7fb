-- THE WORDS OF A RECORD say that record.
use mathlib.Core.Path.{◌≡◌, refl}
use mathlib.Core.Bool.{true}
use Prim.Native.Nat.{ℕ, ◌+◌, ◌*◌, ◌^◌, ◌<◌}
use native.Mathlib.Omega.{arith}
use lib.Pow.{pow-add}
use Rattle.protocol.specs.Folds.{list_of}
use Rattle.protocol.specs.Floor.{multicast, ack_list, delete, deregister, register}
use Rattle.messages.specs.View.{Rooms}
use Rattle.view.specs.Records.{kind_of, index_of, number_of, word_of, words_of, record_in, is_in, room_right}

-- the parts of a word
pub kind_is : (kind index number : ℕ) → kind < 8 → kind_of (word_of kind index number) ≡ kind
kind_is kind index number h = omega arith

pub index_is : (kind index number : ℕ) → kind < 8 → index < 256 → index_of (word_of kind index number) ≡ index
index_is kind index number h l = omega arith

pub number_is : (kind index number : ℕ) → kind < 8 → index < 256 → number_of (word_of kind index number) ≡ number
number_is kind index number h l = omega arith

-- A RECORD'S WORD HOLDS A NUMBER: one of w bits, beside the 11 of its kind and index
pub word_of_width : (w kind index number : ℕ) → kind < 8 → index < 256 → number < 2 ^ w → word_of kind index number < 2 ^ (w + 11)
word_of_width w kind index number h l n =
    let e : 2 ^ (w + 11) ≡ 2 ^ w * 2048 = pow-add 2 w 11 in
    omega arith

-- 43 bits for the floor's, 27 for the kit's, of the 64 that there are
pub floor_word : (kind index number : ℕ) → kind < 8 → index < 256 → number < 4294967296 → word_of kind index number < 2 ^ 43
floor_word kind index number h l n = word_of_width 32 kind index number h l n

pub kit_word : (kind index number : ℕ) → kind < 8 → index < 256 → number < 65536 → word_of kind index number < 2 ^ 27
kit_word kind index number h l n = word_of_width 16 kind index number h l n

module _ (rows : ℕ → ℕ → ℕ) where
  pub multicast_is : (m n : ℕ) → m < 256 → record_in rows (words_of 1 m n 0) ≡ multicast n
  unfolding record_in
  multicast_is m n l = rw (kind_is 1 m n (omega arith), number_is 1 m n (omega arith) l) refl

  pub ack_list_is : (m n x : ℕ) → m < 256 → record_in rows (words_of 2 m n x) ≡ ack_list n x
  unfolding record_in
  ack_list_is m n x l = rw (kind_is 2 m n (omega arith), number_is 2 m n (omega arith) l) refl

  pub delete_is : (m n : ℕ) → m < 256 → record_in rows (words_of 3 m n 0) ≡ delete n
  unfolding record_in
  delete_is m n l = rw (kind_is 3 m n (omega arith), number_is 3 m n (omega arith) l) refl

  pub deregister_is : (c : ℕ) → c < 256 → record_in rows (words_of 4 c 0 0) ≡ deregister c
  unfolding record_in
  deregister_is c l = rw (kind_is 4 c 0 (omega arith), index_is 4 c 0 (omega arith) l) refl

  pub register_is : (c : ℕ) → c < 256 → record_in rows (words_of 5 c 0 0) ≡ register c (list_of 16 (rows c))
  unfolding record_in
  register_is c l = rw (kind_is 5 c 0 (omega arith), index_is 5 c 0 (omega arith) l) refl

-- THEIR ROOMS are right
module _ (R : Rooms) (i j : ℕ) where
  pub multicast_right : (m n : ℕ) → m < 256 → is_in R i n m ≡ true → room_right R i j (words_of 1 m n 0) ≡ true
  unfolding room_right
  multicast_right m n l e = rw (kind_is 1 m n (omega arith), number_is 1 m n (omega arith) l, index_is 1 m n (omega arith) l) e

  pub ack_list_right : (m n x : ℕ) → m < 256 → is_in R j n m ≡ true → room_right R i j (words_of 2 m n x) ≡ true
  unfolding room_right
  ack_list_right m n x l e = rw (kind_is 2 m n (omega arith), number_is 2 m n (omega arith) l, index_is 2 m n (omega arith) l) e

  pub delete_right_lem : (m n : ℕ) → m < 256 → is_in R i n m ≡ true → room_right R i j (words_of 3 m n 0) ≡ true
  unfolding room_right
  delete_right_lem m n l e = rw (kind_is 3 m n (omega arith), number_is 3 m n (omega arith) l, index_is 3 m n (omega arith) l) e

  pub deregister_right : (c : ℕ) → c < 256 → room_right R i j (words_of 4 c 0 0) ≡ true
  unfolding room_right
  deregister_right c l = rw (kind_is 4 c 0 (omega arith)) refl

  pub register_right : (c : ℕ) → c < 256 → room_right R i j (words_of 5 c 0 0) ≡ true
  unfolding room_right
  register_right c l = rw (kind_is 5 c 0 (omega arith)) refl
