-- THE FORM RULE IS THE LENGTHS, THE TABLES' PART, THE GROUPS, THE POOL'S WORDS AND THE LINES' PART: what the parts of the test decide of the whole floor.
use mathlib.Core.Path.{◌≡◌, refl, sym, ap, ◌∙◌}
use mathlib.Core.Bool.{Bool, true, false, ◌&&◌}
use mathlib.Core.List.{List, []}
use Prim.Native.Nat.{ℕ, ◌<◌}
use native.Mathlib.Omega.{arith}
use borrow.Author.Tests.{eqb-true, eq-eqb}
use Rattle.protocol.specs.CartSets.{set_of}
use Rattle.protocol.specs.Floor.{Product, limits, limits_of, local_to}
use Rattle.protocol.specs.Groups.{group_count}
use Rattle.protocol.specs.Claims.{Claim, True, test, is, both, all}
use Rattle.protocol.specs.Form.{room_rule, group_rule, store_rule, passes_form}
use Rattle.protocol.proofs.Tests.{by_test, same_test, clash}
use Rattle.protocol.proofs.ClaimLaws.{reflect}
use Rattle.protocol.proofs.FormTest.{Clauses, clauses_of, passes_of}
use Rattle.stations.specs.View.{stations_in}
use Rattle.carts.specs.View.{carts_in}
use Rattle.messages.specs.View.{rooms_in}
use Rattle.store.proofs.Counted.{text_most, store_fits}
use Rattle.lines.specs.Form.{form}
use Rattle.view.specs.View.{Lent, lent, floor_in, lengths_in, local_right, line_right}
use Rattle.view.proofs.Laid.{Laid, laid_of, words_right_lem}
use Rattle.view.proofs.Lengths.{lengths_of}
use Rattle.form_tables.specs.Tables.{tables, tables_rule}
use Rattle.protocol.proofs.Answers.{no}
use Rattle.form_lines.specs.LinesRule.{lines_claim}
use Rattle.form_lines.specs.Pass.{lines_pass}
use Rattle.form_lines.proofs.Clauses.{TableClauses}
use Rattle.form_lines.proofs.Theorem.{pass_is_test}

module _ (P : Product) (S C M W T O : List ℕ) where
  abbrev L : Lent
  L = lent P S C M W T O

  -- the tables' part
  abbrev pub tabs : Claim
  tabs = tables_rule (limits_of P) P.stations P.carts P.held S C M

  -- the groups' part
  abbrev pub groups : Claim
  groups = all group_count (group_rule limits (tables S C []))

  -- the parts, in the order of the test
  abbrev parts : Claim
  parts = both (is (lengths_in L)) (both (tabs) (both (groups) (both (is (form W)) (lines_claim L))))

  -- each room: no text is longer than a long one
  room : True (tabs) → (m : ℕ) → m < P.held → True (room_rule (limits_of P) (floor_in L) m)
  room a m l =
      let r = a.1.1.1.1.1.1.0 m l in
      (r.0, (r.1.0, (r.1.1, text_most P.held T O (rooms_in M) a.1.1.1.0 m l)))

  -- the long texts take no more octets than the store has
  stored : lengths_in L ≡ true → True (tabs) → True (store_rule (limits_of P) (floor_in L))
  stored e a = store_fits (limits_of P) T O (rooms_in M) refl (lengths_of L e).store a.1.1.1.0

  -- the facts of the words
  laid : True parts → Laid L
  unfolding local_right line_right
  laid (_, (a, (_, (f, b)))) =
      record {
        chains = f;
        canonical = a.1.1.0;
        local = λ t l. eqb-true ((stations_in S).local t) (set_of 64 (λ c. local_to ((carts_in C).place c) t)) (a.1.1.1.1.0 t l);
        texts = a.1.1.1.0;
        few = λ t m lt lm l. a.1.1.1.1.1.1.1.1.1.1 t lt m lm l;
        rooms = λ i j li lj. b.0 i li j lj;
      }

  -- THE PARTS ARE ALL CLAUSES
  joined : True parts → Clauses (limits_of P) (floor_in L)
  joined p =
      let X = words_right_lem L (laid p) in
      let a = p.1.0 in
      let b = p.1.1.1.1.1 in
      record {
        floor = (a.0.0, (p.0, (X, a.0.1)));
        station = a.1.0;
        cart = a.1.1.1.1.1.0;
        room = room a;
        held = λ m l h. let r = a.1.1.1.1.1.1.1.0 m l h in (r.0, (r.1.0, (r.1.1, b.1.1.1.0 m l h)));
        entry = a.1.1.1.1.1.1.1.1.0;
        copy = λ m l h t lt. let r = a.1.1.1.1.1.1.1.1.1.0 m l h t lt in (r.0, (r.1, b.1.1.1.1 m l h t lt));
        line = b.0;
        order = b.1.0;
        handoff = b.1.1.0;
        group = p.1.1.0;
        stored = stored p.0 a;
      }

  -- AND ALL CLAUSES ARE THE PARTS
  of_tables : Clauses (limits_of P) (floor_in L) → True (tabs)
  unfolding local_right
  of_tables Q =
      let X = laid_of L Q.floor.1.1.0 in (
        (Q.floor.0, Q.floor.1.1.1),
        (
          Q.station,
          (
            X.canonical,
            (
              X.texts,
              (
                (λ t l. eq-eqb ((stations_in S).local t) (set_of 64 (λ c. local_to ((carts_in C).place c) t)) (X.local t l)),
                (
                  Q.cart,
                  (
                    (λ m l. let r = Q.room m l in (r.0, (r.1.0, r.1.1.0))),
                    (
                      (λ m l h. let r = Q.held m l h in (r.0, (r.1.0, r.1.1.0))),
                      (
                        Q.entry,
                        ((λ m l h t lt. let r = Q.copy m l h t lt in (r.0, r.1.0)), λ t lt m lm l. X.few t m lt lm l),
                      ),
                    ),
                  ),
                ),
              ),
            ),
          ),
        ),
      )

  of_lines : Clauses (limits_of P) (floor_in L) → True (lines_claim L)
  unfolding line_right
  of_lines Q =
      let X = laid_of L Q.floor.1.1.0 in
      ((λ i li j lj. X.rooms i j li lj), (Q.line, (Q.order, (Q.handoff, ((λ m l h. (Q.held m l h).1.1.1), λ m l h t lt. (Q.copy m l h t lt).1.1)))))

  of_parts : Clauses (limits_of P) (floor_in L) → True parts
  of_parts Q = (Q.floor.1.0, (of_tables Q, (Q.group, ((laid_of L Q.floor.1.1.0).chains, of_lines Q))))

  -- THE FORM RULE passes just where the parts do
  pub form_split : passes_form (limits_of P) (floor_in L) ≡ test parts
  form_split =
      same_test (passes_form (limits_of P) (floor_in L)) (test parts)
      (λ e. (reflect parts).1 (of_parts (clauses_of (limits_of P) (floor_in L) e)))
      (λ e. passes_of (limits_of P) (floor_in L) (joined ((reflect parts).0 e)))

  -- WHERE ONE OF THEM DOES NOT, it fails
  fails : (True parts → ⊥) → false ≡ passes_form (limits_of P) (floor_in L)
  fails h = no parts h ∙ sym form_split

  pub fails_lengths : (r : Bool) → r ≡ lengths_in L → r ≡ false → false ≡ passes_form (limits_of P) (floor_in L)
  fails_lengths r e q = fails (λ p. clash r (e ∙ p.0) q)

  pub fails_tables : (r : Bool) → r ≡ test (tabs) → r ≡ false → false ≡ passes_form (limits_of P) (floor_in L)
  fails_tables r e q = fails (λ p. clash r (e ∙ (reflect (tabs)).1 p.1.0) q)

  pub fails_groups : (r : Bool) → r ≡ test (groups) → r ≡ false → false ≡ passes_form (limits_of P) (floor_in L)
  fails_groups r e q = fails (λ p. clash r (e ∙ (reflect (groups)).1 p.1.1.0) q)

  fails_pool : (r : Bool) → r ≡ form W → r ≡ false → false ≡ passes_form (limits_of P) (floor_in L)
  fails_pool r e q = fails (λ p. clash r (e ∙ p.1.1.1.0) q)

  -- what the pass over the lines builds on
  tables_right : lengths_in L ≡ true → True (tabs) → TableClauses L
  tables_right e a =
      record {
        lengths = lengths_of L e;
        stations = (let z = a.0.1.0.1 in let y = P.stations_fit in omega arith);
        carts = (let z = a.0.1.1.1 in let y = P.carts_fit in omega arith);
        on_stations_lem = a.0.1.0.1;
        on_carts_lem = a.0.1.1.1;
        cart = a.1.1.1.1.1.0;
        room = room a;
        names = λ m l h. (a.1.1.1.1.1.1.1.0 m l h).1.0;
        entry = a.1.1.1.1.1.1.1.1.0;
      }

  -- WHERE THE OTHERS DO, it rests on the pool and the pass over its lines
  pub rests_on_lines : (a b g r : Bool) → a ≡ lengths_in L → a ≡ true → b ≡ test (tabs) → b ≡ true → g ≡ test (groups) → g ≡ true → r ≡ (form W && lines_pass L)
      → r ≡ passes_form (limits_of P) (floor_in L)
  rests_on_lines a b g r ea qa eb qb eg qg er = by_test (form W) (λ w. er ∙ ap (λ (x : Bool). x && lines_pass L) w ∙ on w) (λ w. er ∙ ap (λ (x : Bool). x && lines_pass L) w ∙ fails_pool (form W) refl w)
    where
      on : form W ≡ true → lines_pass L ≡ passes_form (limits_of P) (floor_in L)
      on w =
          let l : lengths_in L ≡ true = sym ea ∙ qa in
          let t = (reflect (tabs)).0 (sym eb ∙ qb) in
          let u = (reflect (groups)).0 (sym eg ∙ qg) in
          pass_is_test L (tables_right l t)
          ∙ same_test (test (lines_claim L)) (test parts)
          (λ e. (reflect parts).1 (l, (t, (u, (w, (reflect (lines_claim L)).0 e)))))
          (λ e. (reflect (lines_claim L)).1 ((reflect parts).0 e).1.1.1.1)
          ∙ sym form_split
