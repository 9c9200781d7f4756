-- Sets and the four-key exchange: payloads of frames and values of headers may be anything, so a sound state is kept.
use mathlib.Core.Path.{◌≡◌, refl, sym, ◌∙◌}
use mathlib.Core.Logic.{◌≢◌}
use mathlib.Core.List.{List, [], ◌∷◌}
use Prim.Native.Nat.{ℕ}
use Rattle.rules.specs.Tables.{frame_width, header_width, frame_at, header_at, put, mark_of, State, with_elems, with_shared}
use Rattle.rules.specs.Exchange.{valued}
use Rattle.rules.specs.Calls.{Ready}
use Rattle.rules.proofs.Laws.Lists.{All}
use Rattle.rules.proofs.Laws.Columns.{upd, upd_other, cols, length-put}
use Rattle.rules.proofs.Laws.Working.{View, view, view_path, Working}
use Rattle.rules.proofs.Laws.Soundness.{shaped_of}
use Rattle.rules.proofs.Laws.Safe.{working}
use Rattle.rules.proofs.Laws.Stored.{ready-still, live_stored}
use Rattle.rules.proofs.Laws.Links.{live_ne}

-- the payload of a frame
unfoldable pub set_element_v : View → (x payload : ℕ) → View
set_element_v v x t = record {
  head = v.head;
  gen = v.gen;
  pay = upd v.pay x t;
  class = v.class;
  prev = v.prev;
  next = v.next;
  bytes = v.bytes;
  count = v.count;
  value = v.value;
  chain = v.chain;
  mark = v.mark;
  total = v.total;
}

-- the value of a header
unfoldable pub set_shared_v : View → (c value : ℕ) → View
set_shared_v v c w = record {
  head = v.head;
  gen = v.gen;
  pay = v.pay;
  class = v.class;
  prev = v.prev;
  next = v.next;
  bytes = v.bytes;
  count = v.count;
  value = upd v.value c w;
  chain = v.chain;
  mark = v.mark;
  total = v.total;
}

module _ (v : View) (W : Working v) where
  pub set_element-sound : (x t : ℕ) → v.gen x ≢ 0 → Working (set_element_v v x t)
  unfolding set_element_v
  set_element-sound x t h = record {
    least = W.least;
    most = W.most;
    elems = W.elems;
    shared = W.shared;
    gens = W.gens;
    zeros = λ s e. (upd_other v.pay x t s (λ q. live_ne v.gen h e (sym q)) ∙ (W.zeros s e).0, (W.zeros s e).1, (W.zeros s e).2);
    value-zero = W.value-zero;
    chain-zero = W.chain-zero;
    marks = W.marks;
    sizes = W.sizes;
    links = W.links;
    class-live = W.class-live;
    ring = W.ring;
  }

  pub set_shared-sound : (c w : ℕ) → v.count c ≢ 0 → Working (set_shared_v v c w)
  unfolding set_shared_v
  set_shared-sound c w h = record {
    least = W.least;
    most = W.most;
    elems = W.elems;
    shared = W.shared;
    gens = W.gens;
    zeros = W.zeros;
    value-zero = λ d e. upd_other v.value c w d (λ q. live_ne v.count h e (sym q)) ∙ W.value-zero d e;
    chain-zero = W.chain-zero;
    marks = W.marks;
    sizes = W.sizes;
    links = W.links;
    class-live = W.class-live;
    ring = W.ring;
  }

-- ---- the book's rules: an element, or a shared value, is set

abbrev pub element_set : State → (x payload : ℕ) → State
element_set st x payload = with_elems st (put frame_width st.elems x frame_at.payload payload)

abbrev pub shared_set : State → (c value : ℕ) → State
shared_set st c value = with_shared st (put header_width st.shared c header_at.value value)

module _ (st : State) (R : Ready st) where
  pub element_set-view : (x payload : ℕ) → (view st).gen x ≢ 0 → view (element_set st x payload) ≡ set_element_v (view st) x payload
  unfolding set_element_v
  element_set-view x payload h =
      let s = live_stored (shaped_of st R.shape).elems (working st R).elems x h in
      view_path _ _ refl (search cols) (search cols) (search cols) (search cols) (search cols) (search cols) refl refl refl refl refl

  pub shared_set-view : (c value : ℕ) → (view st).count c ≢ 0 → view (shared_set st c value) ≡ set_shared_v (view st) c value
  unfolding set_shared_v
  shared_set-view c value h =
      let s = live_stored (shaped_of st R.shape).shared (working st R).shared c h in
      view_path _ _ refl refl refl refl refl refl refl (search cols) (search cols) (search cols) (search cols) (search cols)

  pub set_element-keeps : (x payload : ℕ) → (view st).gen x ≢ 0 → Ready (element_set st x payload)
  set_element-keeps x payload h =
      ready-still R (record { elems = refl; shared = refl; elems-long = length-put frame_width st.elems x frame_at.payload payload; shared_long = refl })
      (rw (element_set-view x payload h) (set_element-sound (view st) (working st R) x payload h))

  pub set_shared-keeps : (c value : ℕ) → (view st).count c ≢ 0 → Ready (shared_set st c value)
  set_shared-keeps c value h =
      ready-still R (record { elems = refl; shared = refl; elems-long = refl; shared_long = length-put header_width st.shared c header_at.value value })
      (rw (shared_set-view c value h) (set_shared-sound (view st) (working st R) c value h))

-- Rules 13: each class gets its value, one after another
pub exchange_keeps : (cs vs : List ℕ) (st : State) → Ready st → All (λ c. (view st).count c ≢ 0) cs → Ready (with_shared st (valued st.shared cs vs))
unfolding valued
exchange_keeps [] vs st R h = R
exchange_keeps (c ∷ cs) [] st R h = R
exchange_keeps (c ∷ cs) (v ∷ vs) st R h =
    let same : (view (shared_set st c v)).count ≡ (view st).count = search cols in
    exchange_keeps cs vs (shared_set st c v) (set_shared-keeps st R c v h.0) (rw same h.1)

-- whose marks stay
pub valued-mark : (s cs vs : List ℕ) → mark_of (valued s cs vs) ≡ mark_of s
unfolding valued
valued-mark s [] vs = refl
valued-mark s (c ∷ cs) [] = refl
valued-mark s (c ∷ cs) (v ∷ vs) = let one : mark_of (put header_width s c header_at.value v) ≡ mark_of s = search cols in valued-mark (put header_width s c header_at.value v) cs vs ∙ one
