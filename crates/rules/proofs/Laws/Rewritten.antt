-- Union's two steps on the element table: class entries rewritten along a walk, and two next links exchanged.
use mathlib.Core.Path.{◌≡◌, refl, sym, ◌∙◌, fun_ext}
use mathlib.Core.Logic.{inl, inr, ◌≢◌}
use mathlib.Core.List.{List, [], ◌∷◌}
use Prim.Native.Nat.{ℕ, zero, suc, ◌*◌, ◌≤◌, ◌<◌}
use lib.ListN.{length}
use Rattle.rules.specs.Tables.{frame_width, frame_at, generation_of, payload_of, class_of, previous_of, next_of, bytes_of, put, State, size_at}
use Rattle.rules.specs.Runs.{linked, rewritten, exchanged}
use Rattle.rules.proofs.Laws.Lists.{All, In, Out, NoDup, Walk, all_map, out-by}
use Rattle.rules.proofs.Laws.Columns.{upd, upd_at, upd_other, cols, length-put}
use Rattle.rules.proofs.Laws.Stored.{Stored, live_stored}
use native.Mathlib.Decide.{ℕ_discrete}
use Rattle.rules.specs.Calls.{Ready}
use Rattle.rules.proofs.Laws.Working.{view, Frame, Ring, Working}
use Rattle.rules.proofs.Laws.Soundness.{shaped_of, ring-at}
use Rattle.rules.proofs.Laws.Safe.{working}
use Rattle.rules.proofs.Laws.Links.{live_ne}

-- the table `e'` is `e` with the class `c` at each slot of the list
pub record Rewritten (e e' : List ℕ) (c : ℕ) (xs : List ℕ) : Type 0 where
  pub long : length e' ≡ length e
  pub gen : generation_of e' ≡ generation_of e
  pub pay : payload_of e' ≡ payload_of e
  pub prev : previous_of e' ≡ previous_of e
  pub next : next_of e' ≡ next_of e
  pub bytes : bytes_of e' ≡ bytes_of e
  pub hit : (s : ℕ) → In s xs → class_of e' s ≡ c
  pub miss : (s : ℕ) → Out s xs → class_of e' s ≡ class_of e s

-- one class entry
abbrev one : List ℕ → (x c : ℕ) → List ℕ
one e x c = put frame_width e x frame_at.class c

pub walk-rewritten : (xs e : List ℕ) (x z c : ℕ) → Walk (next_of e) x z xs → NoDup xs → All (Stored frame_width e) xs → Rewritten e (rewritten (length xs) e x c) c xs
unfolding rewritten
walk-rewritten [] e x z c w u h = record { long = refl; gen = refl; pay = refl; prev = refl; next = refl; bytes = refl; hit = λ s m. absurd m; miss = λ s o. refl }
walk-rewritten (y ∷ ys) e x z c w u h =
    let low : 0 < x = rw w.0 h.0.low in
    let high : x * frame_width ≤ length e = rw w.0 h.0.high in
    let l : length (one e x c) ≡ length e = length-put frame_width e x frame_at.class c in
    let n : next_of (one e x c) ≡ next_of e = search cols in
    step (walk-rewritten ys (one e x c) (next_of e x) z c (rw (n, w.0) w.1) u.1 (all_map (λ s p. record { low = p.low; high = rw l p.high }) ys h.1)) low high
  where
    Rest : Type 0
    Rest = Rewritten (one e x c) (rewritten (length ys) (one e x c) (next_of e x) c) c ys

    hit : (s : ℕ) → Rest → class_of (one e x c) ≡ upd (class_of e) x c → In s (y ∷ ys) → class_of (rewritten (length ys) (one e x c) (next_of e x) c) s ≡ c
    hit s r k (inl q) = r.miss s (rw q u.0) ∙ rw k (upd_at (class_of e) x c s (q ∙ sym w.0))
    hit s r k (inr m) = r.hit s m

    step : Rest → 0 < x → x * frame_width ≤ length e → Rewritten e (rewritten (length ys) (one e x c) (next_of e x) c) c (y ∷ ys)
    step r low high =
        let k : class_of (one e x c) ≡ upd (class_of e) x c = search cols in
        record {
          long = r.long ∙ length-put frame_width e x frame_at.class c;
          gen = r.gen ∙ search cols;
          pay = r.pay ∙ search cols;
          prev = r.prev ∙ search cols;
          next = r.next ∙ search cols;
          bytes = r.bytes ∙ search cols;
          hit = λ s m. hit s r k m;
          miss = λ s o. r.miss s o.1 ∙ rw k (upd_other (class_of e) x c s (λ q. o.0 (q ∙ w.0)));
        }

-- the length of a table does not change
pub length-rewritten : (n : ℕ) (e : List ℕ) (x c : ℕ) → length (rewritten n e x c) ≡ length e
unfolding rewritten
length-rewritten zero e x c = refl
length-rewritten (suc n) e x c = length-rewritten n (one e x c) (next_of e x) c ∙ length-put frame_width e x frame_at.class c

pub length-linked : (e : List ℕ) (a b : ℕ) → length (linked e a b) ≡ length e
unfolding linked
length-linked e a b = simp length-put

pub length_exchanged : (e : List ℕ) (x y : ℕ) → length (exchanged e x y) ≡ length e
unfolding exchanged
length_exchanged e x y = simp length-linked

-- the table `e'` is `e`, whose next column is `n`, with the next links of `x` and `y` exchanged
pub record Crossed (e e' : List ℕ) (n : ℕ → ℕ) (x y : ℕ) : Type 0 where
  pub gen : generation_of e' ≡ generation_of e
  pub pay : payload_of e' ≡ payload_of e
  pub class : class_of e' ≡ class_of e
  pub prev : previous_of e' ≡ upd (upd (previous_of e) (n y) x) (n x) y
  pub next : next_of e' ≡ upd (upd n x (n y)) y (n x)
  pub bytes : bytes_of e' ≡ bytes_of e

pub crossed : (e : List ℕ) (n : ℕ → ℕ) (same : next_of e ≡ n) (x y : ℕ) → Stored frame_width e x → Stored frame_width e y → Stored frame_width e (n x) → Stored frame_width e (n y) → Crossed e (exchanged e x y) n x y
unfolding exchanged linked
crossed e n same x y sx sy nx ny = rw same (record { gen = search cols; pay = search cols; class = search cols; prev = search cols; next = search (cols, same); bytes = search cols })

-- ---- the ring of a live slot

-- the class `d` becomes `c`
unfoldable pub recolour : ℕ → ℕ → (ℕ → ℕ) → ℕ → ℕ
recolour d c cl s = upd (λ k. k) d c (cl s)

module _ (st : State) (R : Ready st) where
  -- the class entries of the whole ring of `b` become `c`, and no other
  pub ring-rewritten : (b c : ℕ) (hb : (view st).gen b ≢ 0) → Rewritten st.elems (rewritten (size_at st b) st.elems b c) c (b ∷ (ring-at (view st) (working st R) b hb).rest)
  ring-rewritten b c hb =
      let r = ring-at (view st) (working st R) b hb in
      let F = (shaped_of st R.shape).elems in
      rw r.sized at (walk-rewritten (b ∷ r.rest) st.elems b b c (refl, r.round) r.once (all_map (λ s f. live_stored F (working st R).elems s f.live) (b ∷ r.rest) r.frames))

  pub rewritten-class : (b c : ℕ) → (view st).gen b ≢ 0 → class_of (rewritten (size_at st b) st.elems b c) ≡ recolour ((view st).class b) c (view st).class
  unfolding recolour
  rewritten-class b c hb = fun_ext λ s. go s (ℕ_discrete ((view st).class s) ((view st).class b))
    where
      W : Working (view st)
      W = working st R

      r : Ring (view st).gen (view st).class (view st).next ((view st).class b) b ((view st).count ((view st).class b))
      r = ring-at (view st) W b hb

      live : (s : ℕ) → (view st).class s ≡ (view st).class b → (view st).gen s ≢ 0
      live s e h = live_ne (view st).count (W.class-live b hb) W.shared.none (sym e ∙ (W.zeros s h).1)

      go : (s : ℕ) → Dec ((view st).class s ≡ (view st).class b) → class_of (rewritten (size_at st b) st.elems b c) s ≡ upd (λ k. k) ((view st).class b) c ((view st).class s)
      go s (yes e) = (ring-rewritten b c hb).hit s (r.whole s (record { live = live s e; mine = e })) ∙ sym (upd_at (λ k. k) ((view st).class b) c ((view st).class s) e)
      go s (no e) = (ring-rewritten b c hb).miss s (out-by (Frame (view st).gen (view st).class ((view st).class b)) s (b ∷ r.rest) (λ f. e f.mine) r.frames)
          ∙ sym (upd_other (λ k. k) ((view st).class b) c ((view st).class s) e)
