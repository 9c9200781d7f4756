-- The passes together leave the rule's tables.
use mathlib.Core.Path.{◌≡◌, refl, sym, ap, ◌∙◌}
use mathlib.Core.Logic.{◌≢◌}
use mathlib.Core.List.{List, [], ◌∷◌, ◌++◌, map}
use Prim.Native.Nat.{ℕ, zero, suc, ◌*◌, ◌-◌, ◌≤◌, ◌<◌}
use native.Mathlib.Omega.{arith}
use native.Mathlib.Decide.{ℕ_discrete, dec_lt, dec_le}
use lib.ListN.{length, get_or, drop}
use Rattle.rules.specs.Notation.{flat}
use Rattle.rules.specs.Tables.{frame_width, header_width, frame_at, header_at, cell, generation_of, count_of, next_free_of, State, Side, field_of, elem_side, shared_side}
use Rattle.rules.specs.Calls.{Ready}
use Rattle.rules.specs.Compress.{place_of, live_slots, moved_frame, moved_header, renumbered, pair_width, key_pair}
use Rattle.rules.proofs.Laws.Lists.{all-at}
use Rattle.rules.proofs.Laws.Columns.{cell-none, cell_out}
use Rattle.rules.proofs.Laws.Pools.{Pooled, lives, live_in}
use Rattle.rules.proofs.Laws.Working.{View, view, Working}
use Rattle.rules.proofs.Laws.Soundness.{Shaped, shaped_of}
use Rattle.rules.proofs.Laws.Safe.{working}
use Rattle.rules.proofs.Laws.Places.{in_at, place_at, upto_is, cells_ext}
use Rattle.rules.proofs.Laws.Compress.{listed_live, live-fits, frame_column, header_column, renumbered_lengths}
use Rattle.rules.proofs.Laws.Ranks.{live_listed, place-lives, lives-alike, lives-some}
use Rattle.rules.proofs.Laws.Written.{rows_then}
use Rattle.slots.specs.Asked.{Within}
use Rattle.ranks.specs.Passes.{Fields, Ranked, Renameable, Renamed, Settled, Room, Told}

-- ---- one table, its live slots in order
module _ (t : Side) {n : ℕ → ℕ} (P : Pooled t.pool (field_of t t.used) n) where
  abbrev g : ℕ → ℕ
  g = field_of t t.used

  abbrev xs : List ℕ
  xs = live_slots t

  -- the slot at a place is live, and counted to that place
  pub at_place : (u : ℕ) → u < length (live_slots t) → (field_of t t.used (get_or (live_slots t) u 0) ≢ 0) × (lives (field_of t t.used) (get_or (live_slots t) u 0) ≡ suc u)
  at_place u l =
      let L = live_listed t P in
      let h = all-at (λ s. g s ≢ 0) (get_or xs u 0) xs L.live (in_at xs u l) in
      (h, sym (place-lives t P (get_or xs u 0) h) ∙ place_at xs u L.once l)

  pub many : length (live_slots t) ≡ lives (field_of t t.used) t.pool.extent
  many = listed_live P xs (live_listed t P) ∙ sym P.number

module _ (st : State) (R : Ready st) (g : ℕ) where
  abbrev v : View
  v = view st

  abbrev fs : List ℕ
  fs = live_slots (elem_side st)

  abbrev cs : List ℕ
  cs = live_slots (shared_side st)

  abbrev ext : ℕ
  ext = st.head.elems.extent

  W : Working (view st)
  W = working st R

  H : Shaped st
  H = shaped_of st R.shape

  -- what the passes ask
  pub elems_fields : Fields frame_width st.elems frame_at.generation frame_at.generation st.head.elems.extent
  elems_fields = record { inside = omega (arith, W.elems.fits, H.elems.long); few = omega (arith, W.elems.fits, H.elems.small); reads = omega arith; writes = omega arith }

  pub shared_fields : Fields header_width st.shared header_at.count header_at.next_free st.head.shared.extent
  shared_fields = record { inside = omega (arith, W.shared.fits, H.shared.long); few = omega (arith, W.shared.fits, H.shared.small); reads = omega arith; writes = omega arith }

  -- nothing stands past the extents
  frames-past : (f s : ℕ) → f < frame_width → st.head.elems.extent < s → cell frame_width st.elems f s ≡ 0
  frames-past f s h l = go (dec_le s st.head.elems.capacity)
    where
      go : Dec (s ≤ st.head.elems.capacity) → cell frame_width st.elems f s ≡ 0
      go (yes k) = R.sound.zeros.past.0 s f l k h
      go (no k) = cell_out frame_width st.elems f s st.head.elems.capacity H.elems.long (omega arith)

  headers-past : (f s : ℕ) → f < header_width → st.head.shared.extent < s → cell header_width st.shared f s ≡ 0
  headers-past f s h l = go (dec_le s st.head.shared.capacity)
    where
      go : Dec (s ≤ st.head.shared.capacity) → cell header_width st.shared f s ≡ 0
      go (yes k) = R.sound.zeros.past.1 s f l k h
      go (no k) = cell_out header_width st.shared f s st.head.shared.capacity H.shared.long (omega arith)

  module _ (e₁ s₁ : List ℕ) (RE : Ranked frame_width st.elems frame_at.generation frame_at.generation st.head.elems.extent e₁)
      (RS : Ranked header_width st.shared header_at.count header_at.next_free st.head.shared.extent s₁) where
    -- the rank of a frame, and of a header
    frame_rank : (s : ℕ) → (view st).gen s ≢ 0 → generation_of e₁ s ≡ place_of (live_slots (elem_side st)) s
    frame_rank s h = RE.live s (live_in W.elems s h).1 h ∙ sym (place-lives (elem_side st) W.elems s h)

    header_rank : (c : ℕ) → (view st).count c ≢ 0 → next_free_of s₁ c ≡ place_of (live_slots (shared_side st)) c
    header_rank c h = RS.live c (live_in W.shared c h).1 h ∙ sym (place-lives (shared_side st) W.shared c h)

    -- the same slots are live
    still-free : (s : ℕ) → (view st).gen s ≡ 0 → generation_of e₁ s ≡ 0
    still-free s h = RE.free s h ∙ h

    still-live : (s : ℕ) → (view st).gen s ≢ 0 → generation_of e₁ s ≢ 0
    still-live s h q = omega (arith, lives-some v.gen s W.elems.none h, RE.live s (live_in W.elems s h).1 h)

    was_live : (s : ℕ) → generation_of e₁ s ≢ 0 → (view st).gen s ≢ 0
    was_live s h q = h (still-free s q)

    beside : (f : ℕ) → f < frame_width → f ≢ frame_at.generation → cell frame_width e₁ f ≡ cell frame_width st.elems f
    beside = RE.others

    pub renameable : Renameable e₁ s₁ st.head.elems.extent
    renameable = record {
      few = elems_fields.few;
      frames = λ s lo hi. record {
        frame = within s lo hi;
        class = λ h. let l = live_in W.shared (v.class s) (W.class-live s (was_live s h)) in rw (beside frame_at.class (omega arith) (omega arith)) (record { some = l.0; inside = rw RS.long (omega (arith, l.1, W.shared.fits, H.shared.long)) });
        previous = λ h. let l = live_in W.elems (v.prev s) (W.links.prev_live s (was_live s h)) in rw (beside frame_at.previous (omega arith) (omega arith)) (within (v.prev s) l.0 l.1);
        next = λ h. let l = live_in W.elems (v.next s) (W.links.next-live s (was_live s h)) in rw (beside frame_at.next (omega arith) (omega arith)) (within (v.next s) l.0 l.1);
      };
    }
      where
        within : (s : ℕ) → 1 ≤ s → s ≤ st.head.elems.extent → Within frame_width e₁ s
        within s lo hi = record { some = lo; inside = rw RE.long (omega (arith, W.elems.fits, H.elems.long)) }

    module _ (e₂ : List ℕ) (N : Renamed e₁ s₁ st.head.elems.extent e₂) where
      gens : generation_of e₂ ≡ generation_of e₁
      gens = N.others frame_at.generation (omega arith) (omega arith) (omega arith) (omega arith)

      pub renamed_fields : Fields frame_width e₂ frame_at.generation frame_at.generation st.head.elems.extent
      renamed_fields = record { inside = rw (N.long, RE.long) elems_fields.inside; few = elems_fields.few; reads = omega arith; writes = omega arith }

      pub ranked_fields : Fields header_width s₁ header_at.count header_at.next_free st.head.shared.extent
      ranked_fields = record { inside = rw RS.long shared_fields.inside; few = shared_fields.few; reads = omega arith; writes = omega arith }

      alike : (k : ℕ) → lives (generation_of e₂) k ≡ lives (view st).gen k
      alike k = rw gens (lives-alike v.gen (generation_of e₁) k still-free still-live)

      counts : count_of s₁ ≡ (view st).count
      counts = RS.others header_at.count (omega arith) (omega arith)

      -- the fields of a frame, renamed where it stands
      moved : (s f : ℕ) → (view st).gen s ≢ 0 → f < frame_width → f ≢ frame_at.generation → cell frame_width e₂ f s ≡ get_or (moved_frame st fs cs g s) f 0
      moved s zero h l n = absurd (n refl)
      moved s (suc zero) h l n = ap (λ (col : ℕ → ℕ). col s) (N.others 1 (omega arith) (omega arith) (omega arith) (omega arith) ∙ beside 1 (omega arith) (omega arith))
      moved s (suc (suc zero)) h l n =
          N.class s (live_in W.elems s h).1 (still-live s h) ∙ ap (λ (col : ℕ → ℕ). next_free_of s₁ (col s)) (beside 2 (omega arith) (omega arith)) ∙ header_rank (v.class s) (W.class-live s h)
      moved s (suc (suc (suc zero))) h l n =
          N.previous s (live_in W.elems s h).1 (still-live s h) ∙ ap (λ (col : ℕ → ℕ). generation_of e₁ (col s)) (beside 3 (omega arith) (omega arith)) ∙ frame_rank (v.prev s) (W.links.prev_live s h)
      moved s (suc (suc (suc (suc zero)))) h l n =
          N.next s (live_in W.elems s h).1 (still-live s h) ∙ ap (λ (col : ℕ → ℕ). generation_of e₁ (col s)) (beside 4 (omega arith) (omega arith)) ∙ frame_rank (v.next s) (W.links.next-live s h)
      moved s (suc (suc (suc (suc (suc zero))))) h l n = ap (λ (col : ℕ → ℕ). col s) (N.others 5 (omega arith) (omega arith) (omega arith) (omega arith) ∙ beside 5 (omega arith) (omega arith))
      moved s (suc (suc (suc (suc (suc (suc f)))))) h l n = absurd (omega arith)

      module _ (e₃ s₃ : List ℕ) (DE : Settled frame_width e₂ frame_at.generation frame_at.generation g st.head.elems.extent e₃)
          (DS : Settled header_width s₁ header_at.count header_at.next_free 0 st.head.shared.extent s₃) where
        prior : (u : ℕ) → suc u - 1 ≡ u
        prior u = omega arith

        lengths : (length (renumbered st fs cs g).elems ≡ st.head.elems.capacity * frame_width) × (length (renumbered st fs cs g).shared ≡ st.head.shared.capacity * header_width)
        lengths = renumbered_lengths st.head.elems.capacity st.head.shared.capacity st W fs cs g (live_listed (elem_side st) W.elems) (live_listed (shared_side st) W.shared) (live-fits W.elems) (live-fits W.shared)

        -- ---- frames
        frame_in_lem : (f : ℕ) → f < frame_width → (u : ℕ) → u < length fs → cell frame_width e₃ f (suc u) ≡ get_or (moved_frame st fs cs g (get_or fs u 0)) f 0
        frame_in_lem f h u l =
            let a = at_place (elem_side st) W.elems u l in
            let s = get_or fs u 0 in
            let hi = (live_in W.elems s a.0).1 in
            let live : generation_of e₂ s ≢ 0 = rw gens (still-live s a.0) in
            let e : lives (generation_of e₂) s ≡ suc u = alike s ∙ a.1 in
            go s e hi live a.0 (ℕ_discrete f frame_at.generation)
          where
            go : (s : ℕ) → lives (generation_of e₂) s ≡ suc u → s ≤ ext → generation_of e₂ s ≢ 0 → v.gen s ≢ 0 → Dec (f ≡ frame_at.generation) → cell frame_width e₃ f (suc u) ≡ get_or (moved_frame st fs cs g s) f 0
            go s e hi live h' (yes q) = rw (q, ← e) (DE.given s hi live)
            go s e hi live h' (no q) = ap (cell frame_width e₃ f) (sym e) ∙ DE.there s f hi live h q ∙ moved s f h' h q

        frame-out : (f : ℕ) → f < frame_width → (u : ℕ) → length fs ≤ u → cell frame_width e₃ f (suc u) ≡ 0
        frame-out f h u l = go (dec_lt u ext) (ℕ_discrete f frame_at.generation)
          where
            first : ext < suc u → Dec (f ≡ frame_at.generation) → cell frame_width e₁ f (suc u) ≡ cell frame_width st.elems f (suc u)
            first k (yes q) = rw q (RE.past (suc u) k)
            first k (no q) = ap (λ (col : ℕ → ℕ). col (suc u)) (beside f h q)

            go : Dec (u < ext) → Dec (f ≡ frame_at.generation) → cell frame_width e₃ f (suc u) ≡ 0
            go (yes k) d = DE.zeros f u h (rw (alike ext) (omega (arith, many (elem_side st) W.elems))) k
            go (no k) d = DE.past f (suc u) h (omega arith) ∙ N.past f (suc u) h (omega arith) ∙ first (omega arith) d ∙ frames-past f (suc u) h (omega arith)

        pub elems_final : e₃ ≡ (renumbered st (live_slots (elem_side st)) (live_slots (shared_side st)) g).elems
        elems_final = cells_ext frame_width st.head.elems.capacity e₃ (renumbered st fs cs g).elems (omega arith) (DE.long ∙ N.long ∙ RE.long ∙ H.elems.long) lengths.0
            (λ f h. upto_is (length fs) (λ t. get_or (moved_frame st fs cs g (get_or fs (t - 1) 0)) f 0) (cell frame_width e₃ f) (cell-none frame_width e₃ f)
            (λ u l. frame_in_lem f h u l ∙ ap (λ (j : ℕ). get_or (moved_frame st fs cs g (get_or fs j 0)) f 0) (sym (prior u))) (frame-out f h)
            ∙ sym (frame_column st.head.elems.capacity st.head.shared.capacity st fs cs g f h))

        -- ---- headers
        header-moved : (c f : ℕ) → f < header_width → f ≢ header_at.next_free → cell header_width s₁ f c ≡ get_or (moved_header st c) f 0
        header-moved c zero h n = ap (λ (col : ℕ → ℕ). col c) (RS.others 0 h n)
        header-moved c (suc zero) h n = ap (λ (col : ℕ → ℕ). col c) (RS.others 1 h n)
        header-moved c (suc (suc zero)) h n = absurd (n refl)
        header-moved c (suc (suc (suc zero))) h n = ap (λ (col : ℕ → ℕ). col c) (RS.others 3 h n)
        header-moved c (suc (suc (suc (suc zero)))) h n = ap (λ (col : ℕ → ℕ). col c) (RS.others 4 h n)
        header-moved c (suc (suc (suc (suc (suc f))))) h n = absurd (omega arith)

        header_in : (f : ℕ) → f < header_width → (u : ℕ) → u < length cs → cell header_width s₃ f (suc u) ≡ get_or (moved_header st (get_or cs u 0)) f 0
        header_in f h u l =
            let a = at_place (shared_side st) W.shared u l in
            go (get_or cs u 0) (rw counts a.1) (live_in W.shared (get_or cs u 0) a.0).1 (rw counts a.0) (ℕ_discrete f header_at.next_free)
          where
            go : (c : ℕ) → lives (count_of s₁) c ≡ suc u → c ≤ st.head.shared.extent → count_of s₁ c ≢ 0 → Dec (f ≡ header_at.next_free) → cell header_width s₃ f (suc u) ≡ get_or (moved_header st c) f 0
            go c e hi live (yes q) = rw (q, ← e) (DS.given c hi live)
            go c e hi live (no q) = ap (cell header_width s₃ f) (sym e) ∙ DS.there c f hi live h q ∙ header-moved c f h q

        header-out : (f : ℕ) → f < header_width → (u : ℕ) → length cs ≤ u → cell header_width s₃ f (suc u) ≡ 0
        header-out f h u l = go (dec_lt u st.head.shared.extent) (ℕ_discrete f header_at.next_free)
          where
            first : st.head.shared.extent < suc u → Dec (f ≡ header_at.next_free) → cell header_width s₁ f (suc u) ≡ cell header_width st.shared f (suc u)
            first k (yes q) = rw q (RS.past (suc u) k)
            first k (no q) = ap (λ (col : ℕ → ℕ). col (suc u)) (RS.others f h q)

            go : Dec (u < st.head.shared.extent) → Dec (f ≡ header_at.next_free) → cell header_width s₃ f (suc u) ≡ 0
            go (yes k) d = DS.zeros f u h (rw counts (omega (arith, many (shared_side st) W.shared))) k
            go (no k) d = DS.past f (suc u) h (omega arith) ∙ first (omega arith) d ∙ headers-past f (suc u) h (omega arith)

        pub shared_final : s₃ ≡ (renumbered st (live_slots (elem_side st)) (live_slots (shared_side st)) g).shared
        shared_final = cells_ext header_width st.head.shared.capacity s₃ (renumbered st fs cs g).shared (omega arith) (DS.long ∙ RS.long ∙ H.shared.long) lengths.1
            (λ f h. upto_is (length cs) (λ d. get_or (moved_header st (get_or cs (d - 1) 0)) f 0) (cell header_width s₃ f) (cell-none header_width s₃ f)
            (λ u l. header_in f h u l ∙ ap (λ (j : ℕ). get_or (moved_header st (get_or cs j 0)) f 0) (sym (prior u))) (header-out f h)
            ∙ sym (header_column st.head.elems.capacity st.head.shared.capacity st fs cs g f h))

  -- ---- the pairs
  pub room : (lent : List ℕ) → st.head.elems.live * pair_width ≤ length lent → Room st.elems lent st.head.elems.extent
  room lent h = record { inside = elems_fields.inside; few = elems_fields.few; room = rw W.elems.number h }

  pub pairs_final : (lent out : List ℕ) → st.head.elems.live * pair_width ≤ length lent → Told st.elems lent g st.head.elems.extent out
      → out ≡ flat (map (key_pair st (live_slots (elem_side st)) g) (live_slots (elem_side st))) ++ drop (length (flat (map (key_pair st (live_slots (elem_side st)) g) (live_slots (elem_side st))))) lent
  pairs_final lent out h T =
      rows_then pair_width (key_pair st fs g) (λ x. refl) (omega arith) fs lent out T.long (rw (listed_live W.elems fs (live_listed (elem_side st) W.elems)) h)
      there (λ f s k l. T.past f s k (omega (arith, many (elem_side st) W.elems)))
    where
      there : (u f : ℕ) → u < length fs → f < pair_width → cell pair_width out f (suc u) ≡ get_or (key_pair st fs g (get_or fs u 0)) f 0
      there u f l k =
          let a = at_place (elem_side st) W.elems u l in
          let s = get_or fs u 0 in
          ap (cell pair_width out f) (sym a.1) ∙ T.there s (live_in W.elems s a.0).1 a.0 f k ∙ ap (λ (p : ℕ). get_or (s ∷ v.gen s ∷ p ∷ g ∷ []) f 0) (sym (place-lives (elem_side st) W.elems s a.0))
