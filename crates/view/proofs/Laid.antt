-- HOW THE WORDS LIE: the test of the words as facts, and how each write keeps them.
use mathlib.Core.Path.{◌≡◌, refl, sym, ap, ◌∙◌}
use mathlib.Core.Bool.{Bool, true, false, ◌&&◌, ◌||◌, not}
use mathlib.Core.List.{List, [], ◌∷◌, ◌++◌}
use Prim.Native.Nat.{ℕ, ◌+◌, ◌*◌, ◌≤◌, ◌<◌}
use lib.Dec.{eqb, ltb}
use lib.ListN.{drop}
use borrow.Author.Tests.{eqb-true, eq-eqb, ne_eqb, lt-ltb, le-ltb}
use Rattle.protocol.specs.Folds.{every, update}
use Rattle.protocol.specs.CartSets.{with, without, set_of}
use Rattle.protocol.specs.Floor.{Product, Place, local_to}
use Rattle.protocol.specs.Claims.{True, test}
use Rattle.protocol.proofs.ClaimLaws.{reflect}
use Rattle.protocol.proofs.Tests.{and_left, and_right, and_intro, and-true, and-false, or_right, or_none, by_eq, by_lt, on_update, every_at, every_all}
use Rattle.protocol.proofs.SetLaws.{has_with, has_without, has_set_of, set_of_lt, with_lt, without_lt, same_members}
use Rattle.stations.specs.View.{stations_in}
use Rattle.carts.specs.View.{carts_in, canonical_in}
use Rattle.messages.specs.View.{rooms_in}
use Rattle.store.specs.Layout.{layout_rule}
use Rattle.lines.specs.declared.Record as word
use Rattle.lines.specs.Lines.{records_on}
use Rattle.lines.specs.Form.{form}
use Rattle.lines.specs.Post.{Pushed, Popped, Carried}
use Rattle.view.specs.Records.{room_right}
use Rattle.view.specs.View.{Lent, lent, local_right, every_word, line_right, rooms_right, words_in}
use Rattle.view.proofs.LinesView.{same_line, line_below}

-- the words, fact by fact
pub record Laid (L : Lent) : Type 0 where
  pub chains : form L.lines ≡ true
  pub canonical : (c : ℕ) → c < L.product.carts → canonical_in L.carts c ≡ true
  pub local : (t : ℕ) → t < L.product.stations → (stations_in L.stations).local t ≡ set_of 64 (λ c. local_to ((carts_in L.carts).place c) t)
  pub texts : True (layout_rule L.product.held (rooms_in L.messages))
  pub rooms : (i j : ℕ) → i < 16 → j < 16 → every_word (room_right (rooms_in L.messages) i j) (records_on L.lines (i * 16 + j)) ≡ true
  pub few : (t m : ℕ) → t < L.product.stations → m < 32 → L.product.held ≤ m → ((stations_in L.stations).copy m t ≡ 0) × ((stations_in L.stations).queue m t ≡ 0)

module _ (L : Lent) where
  abbrev a : Bool
  a = form L.lines

  abbrev b : Bool
  b = every L.product.carts (canonical_in L.carts)

  abbrev c : Bool
  c = every L.product.stations (local_right L)

  abbrev d : Bool
  d = test (layout_rule L.product.held (rooms_in L.messages))

  abbrev e : Bool
  e = every 16 (λ i. every 16 (line_right L i))

  abbrev f : Bool
  f = every L.product.stations (rooms_right L)

  room_few : (t m : ℕ) → L.product.held ≤ m → (ltb m L.product.held || (eqb ((stations_in L.stations).copy m t) 0 && eqb ((stations_in L.stations).queue m t) 0)) ≡ true
      → ((stations_in L.stations).copy m t ≡ 0) × ((stations_in L.stations).queue m t ≡ 0)
  room_few t m l h =
      let h' : (eqb ((stations_in L.stations).copy m t) 0 && eqb ((stations_in L.stations).queue m t) 0) ≡ true = rw (le-ltb m L.product.held l) at h in
      (eqb-true ((stations_in L.stations).copy m t) 0 (and_left (eqb ((stations_in L.stations).copy m t) 0) _ h'), eqb-true ((stations_in L.stations).queue m t) 0 (and_right (eqb ((stations_in L.stations).copy m t) 0) _ h'))

  pub laid_of : words_in L ≡ true → Laid L
  unfolding words_in local_right line_right rooms_right
  laid_of h =
      let p = and_right a (b && (c && (d && (e && f)))) h in
      let q = and_right b (c && (d && (e && f))) p in
      let r = and_right c (d && (e && f)) q in
      let s = and_right d (e && f) r in
      record {
        chains = and_left a (b && (c && (d && (e && f)))) h;
        canonical = every_at L.product.carts (canonical_in L.carts) (and_left b (c && (d && (e && f))) p);
        local = λ t l. eqb-true ((stations_in L.stations).local t) _ (every_at L.product.stations (local_right L) (and_left c (d && (e && f)) q) t l);
        texts = (reflect (layout_rule L.product.held (rooms_in L.messages))).0 (and_left d (e && f) r);
        rooms = λ i j li lj. every_at 16 (line_right L i) (every_at 16 (λ i. every 16 (line_right L i)) (and_left e f s) i li) j lj;
        few = λ t m lt lm l. room_few t m l (every_at 32 _ (every_at L.product.stations (rooms_right L) (and_right e f s) t lt) m lm);
      }

  pub words_right_lem : Laid L → words_in L ≡ true
  unfolding words_in local_right line_right rooms_right
  words_right_lem X =
      and_intro a (b && (c && (d && (e && f)))) X.chains
      (and_intro b (c && (d && (e && f))) (every_all L.product.carts (canonical_in L.carts) X.canonical)
      (and_intro c (d && (e && f)) (every_all L.product.stations (local_right L) (λ t l. eq-eqb ((stations_in L.stations).local t) _ (X.local t l)))
      (and_intro d (e && f) ((reflect (layout_rule L.product.held (rooms_in L.messages))).1 X.texts)
      (and_intro e f (every_all 16 (λ i. every 16 (line_right L i)) (λ i li. every_all 16 (line_right L i) (λ j lj. X.rooms i j li lj)))
      (every_all L.product.stations (rooms_right L) (λ t lt. every_all 32 _ (λ m lm. by_lt m L.product.held (λ l. rw (lt-ltb m L.product.held l) refl)
      (λ l. let z = X.few t m lt lm l in rw (le-ltb m L.product.held l, z.0, z.1) refl))))))))

-- RECORDS OF A LINE

-- one more at the end
pub words_append : (f : word.Record → Bool) (l : List word.Record) (r : word.Record) → every_word f l ≡ true → f r ≡ true → every_word f (l ++ (r ∷ [])) ≡ true
words_append f [] r h e = and_intro (f r) true e refl
words_append f (x ∷ l) r h e = and_intro (f x) (every_word f (l ++ (r ∷ []))) (and_left (f x) (every_word f l) h) (words_append f l r (and_right (f x) (every_word f l) h) e)

-- without the head
words_drop : (f : word.Record → Bool) (l : List word.Record) → every_word f l ≡ true → every_word f (drop 1 l) ≡ true
words_drop f [] h = refl
words_drop f (x ∷ l) h = and_right (f x) (every_word f l) h

-- LOCAL CARTS, when cart c's place is another
module _ (place : ℕ → Place) (c t : ℕ) (p : Place) where
  abbrev before : ℕ
  before = set_of 64 (λ d. local_to (place d) t)

  abbrev after : ℕ
  after = set_of 64 (λ d. local_to (update place c p d) t)

  -- it was local just when it is
  pub local_stays : local_to p t ≡ local_to (place c) t → before ≡ after
  local_stays q =
      same_members 64 before after (set_of_lt 64 (λ d. local_to (place d) t)) (set_of_lt 64 (λ d. local_to (update place c p d) t))
      (λ d l. has_set_of 64 (λ d. local_to (place d) t) d l ∙ same d ∙ sym (has_set_of 64 (λ d. local_to (update place c p d) t) d l))
    where
      same : (d : ℕ) → local_to (place d) t ≡ local_to (update place c p d) t
      same d = on_update (λ (x : Place). local_to (place d) t ≡ local_to x t) place c p d (λ z. ap (λ (x : ℕ). local_to (place x) t) z ∙ sym q) (λ z. refl)

  -- it is local now
  pub local_joins : c < 64 → local_to p t ≡ true → with before c ≡ after
  local_joins lc q =
      same_members 64 (with before c) after (with_lt 64 before c (set_of_lt 64 (λ d. local_to (place d) t)) lc) (set_of_lt 64 (λ d. local_to (update place c p d) t))
      (λ d l. has_with before c d ∙ ap (λ (x : Bool). x || eqb c d) (has_set_of 64 (λ d. local_to (place d) t) d l)
      ∙ joined d ∙ sym (has_set_of 64 (λ d. local_to (update place c p d) t) d l))
    where
      joined : (d : ℕ) → (local_to (place d) t || eqb c d) ≡ local_to (update place c p d) t
      joined d =
          on_update (λ (x : Place). (local_to (place d) t || eqb c d) ≡ local_to x t) place c p d
          (λ z. or_right (local_to (place d) t) (eqb c d) (eq-eqb c d (sym z)) ∙ sym q)
          (λ z. rw (ne_eqb c d (λ y. z (sym y))) (or_none (local_to (place d) t)))

  -- it is local no more
  pub local_leaves : local_to p t ≡ false → without before c ≡ after
  local_leaves q =
      same_members 64 (without before c) after (without_lt 64 before c (set_of_lt 64 (λ d. local_to (place d) t))) (set_of_lt 64 (λ d. local_to (update place c p d) t))
      (λ d l. has_without before c d ∙ ap (λ (x : Bool). x && not (eqb c d)) (has_set_of 64 (λ d. local_to (place d) t) d l)
      ∙ left d ∙ sym (has_set_of 64 (λ d. local_to (update place c p d) t) d l))
    where
      left : (d : ℕ) → (local_to (place d) t && not (eqb c d)) ≡ local_to (update place c p d) t
      left d =
          on_update (λ (x : Place). (local_to (place d) t && not (eqb c d)) ≡ local_to x t) place c p d
          (λ z. rw (eq-eqb c d (sym z)) (and-false (local_to (place d) t) ∙ sym q))
          (λ z. rw (ne_eqb c d (λ y. z (sym y))) (and-true (local_to (place d) t)))

-- WRITES, each of one part; what it leaves is laid again
module _ {P : Product} (S C M W T O : List ℕ) (X : Laid (lent P S C M W T O)) where
  -- of the stations, when no local carts change
  pub laid_stations : (S' : List ℕ) → ((t : ℕ) → t < P.stations → (stations_in S').local t ≡ (stations_in S).local t)
      → ((t m : ℕ) → t < P.stations → m < 32 → P.held ≤ m → ((stations_in S').copy m t ≡ 0) × ((stations_in S').queue m t ≡ 0)) → Laid (lent P S' C M W T O)
  laid_stations S' h few = record { chains = X.chains; canonical = X.canonical; local = λ t l. h t l ∙ X.local t l; texts = X.texts; rooms = X.rooms; few = few }

  -- of the carts and of the masks of local carts
  pub laid_carts : (S' C' : List ℕ) → ((c : ℕ) → c < P.carts → canonical_in C' c ≡ true) → ((t : ℕ) → t < P.stations → (stations_in S').local t ≡ set_of 64 (λ c. local_to ((carts_in C').place c) t))
      → ((t m : ℕ) → t < P.stations → m < 32 → P.held ≤ m → ((stations_in S').copy m t ≡ 0) × ((stations_in S').queue m t ≡ 0)) → Laid (lent P S' C' M W T O)
  laid_carts S' C' canonical local few = record { chains = X.chains; canonical = canonical; local = local; texts = X.texts; rooms = X.rooms; few = few }

  -- of the carts' flags: one row is in canonical words again, and every place stays
  pub laid_flags : (C' : List ℕ) (c : ℕ) → canonical_in C' ≡ update (canonical_in C) c true → (carts_in C').place ≡ (carts_in C).place → Laid (lent P S C' M W T O)
  laid_flags C' c canonical place =
      laid_carts S C'
      (λ d ld. ap (λ (f : ℕ → Bool). f d) canonical ∙ on_update (λ (b : Bool). b ≡ true) (canonical_in C) c true d (λ q. refl) (λ q. X.canonical d ld))
      (λ t l. X.local t l ∙ sym (ap (λ (f : ℕ → Place). set_of 64 (λ d. local_to (f d) t)) place))
      X.few

  -- of the texts and of the store
  pub laid_texts : (T' O' : List ℕ) → Laid (lent P S C M W T' O')
  laid_texts T' O' = record { chains = X.chains; canonical = X.canonical; local = X.local; texts = X.texts; rooms = X.rooms; few = X.few }

  -- of the messages, when the records on the lines are right in the new rooms too
  pub laid_messages : (M' : List ℕ) → True (layout_rule P.held (rooms_in M'))
      → ((i j : ℕ) → i < 16 → j < 16 → every_word (room_right (rooms_in M') i j) (records_on W (i * 16 + j)) ≡ true) → Laid (lent P S C M' W T O)
  laid_messages M' texts rooms = record { chains = X.chains; canonical = X.canonical; local = X.local; texts = texts; rooms = rooms; few = X.few }

  -- a record joins a line
  pub laid_push : (W' : List ℕ) (a b : ℕ) (r : word.Record) → a < 16 → b < 16 → Pushed W W' (a * 16 + b) r → room_right (rooms_in M) a b r ≡ true → Laid (lent P S C M W' T O)
  laid_push W' a b r la lb p e =
      record {
        chains = p.formed;
        canonical = X.canonical;
        local = X.local;
        texts = X.texts;
        few = X.few;
        rooms = λ i j li lj. by_eq (i * 16 + j) (a * 16 + b)
            (λ q. let z = same_line i j a b lj lb q in
            rw (z.0, z.1) (rw p.line (words_append (room_right (rooms_in M) a b) (records_on W (a * 16 + b)) r (X.rooms a b la lb) e)))
            (λ q. rw (p.others (i * 16 + j) (line_below i j li lj) q) (X.rooms i j li lj));
      }

  -- the head of a line is taken
  pub laid_pop : (W' : List ℕ) (a b : ℕ) → a < 16 → b < 16 → Popped W W' (a * 16 + b) → Laid (lent P S C M W' T O)
  laid_pop W' a b la lb p =
      record {
        chains = p.formed;
        canonical = X.canonical;
        local = X.local;
        texts = X.texts;
        few = X.few;
        rooms = λ i j li lj. by_eq (i * 16 + j) (a * 16 + b)
            (λ q. let z = same_line i j a b lj lb q in
            rw (z.0, z.1) (rw p.line (words_drop (room_right (rooms_in M) a b) (records_on W (a * 16 + b)) (X.rooms a b la lb))))
            (λ q. rw (p.others (i * 16 + j) (line_below i j li lj) q) (X.rooms i j li lj));
      }

  -- the register of a cart gets its row
  pub laid_carry : (W' : List ℕ) (c : ℕ) (row : List ℕ) → Carried W W' c row → Laid (lent P S C M W' T O)
  laid_carry W' c row p =
      record {
        chains = p.formed;
        canonical = X.canonical;
        local = X.local;
        texts = X.texts;
        few = X.few;
        rooms = λ i j li lj. rw (p.lines (i * 16 + j) (line_below i j li lj)) (X.rooms i j li lj);
      }
