-- What the head remembers is no part of the clauses 1 to 11: with any memory a state is as sound, and holds its history as well.
use mathlib.Core.Path.{◌≡◌, refl, ap, ◌∙◌}
use Prim.Native.Nat.{ℕ, zero, suc, ◌<◌}
use native.Mathlib.Omega.{arith}
use Rattle.rules.specs.declared.Memory.{Memory}
use Rattle.rules.specs.Tables.{frame_width, header_width, cell, State, with_undo}
use Rattle.rules.specs.Calls.{Ready}
use Rattle.rules.specs.History.{History}
use Rattle.rules.proofs.Laws.Working.{View, view, Working}
use Rattle.rules.proofs.Laws.Soundness.{shaped_of}
use Rattle.rules.proofs.Laws.Safe.{working}
use Rattle.rules.proofs.Laws.Places.{cells_ext}
use Rattle.rules.proofs.Laws.Stored.{Still, ready-still}
use Rattle.rules.proofs.Laws.Steady.{steady_same}
use Rattle.rules.proofs.Laws.Seals.{seals_steady}
use Rattle.rules.proofs.Laws.Givens.{givens_same}
use Rattle.rules.proofs.Laws.Good.{Good}
use Rattle.rules.proofs.Laws.Histories.Gone.{rep_still}

-- the columns, with another memory
abbrev pub with_memory : View → Memory → View
with_memory v m = record {
  head = record { elems = v.head.elems; shared = v.head.shared; generation = v.head.generation; undo = m };
  gen = v.gen;
  pay = v.pay;
  class = v.class;
  prev = v.prev;
  next = v.next;
  bytes = v.bytes;
  count = v.count;
  value = v.value;
  chain = v.chain;
  mark = v.mark;
  total = v.total;
}

pub working_memory : (v : View) (m : Memory) → Working v → Working (with_memory v m)
working_memory v m W = record {
  least = W.least;
  most = W.most;
  elems = W.elems;
  shared = W.shared;
  gens = W.gens;
  zeros = W.zeros;
  value-zero = W.value-zero;
  chain-zero = W.chain-zero;
  marks = W.marks;
  sizes = W.sizes;
  links = W.links;
  class-live = W.class-live;
  ring = W.ring;
}

pub still-undo : {st st' : State} (m : Memory) → Still st st' → Still st (with_undo st' m)
still-undo m s = record { elems = s.elems; shared = s.shared; elems-long = s.elems-long; shared_long = s.shared_long }

pub ready-undo : (st : State) (m : Memory) → Ready st → Ready (with_undo st m)
ready-undo st m R = ready-still R (record { elems = refl; shared = refl; elems-long = refl; shared_long = refl }) (working_memory (view st) m (working st R))

pub good-undo : (st : State) (m : Memory) {h : History} → Good st h → Good (with_undo st m) h
good-undo st m {h} G = record {
  ready = ready-undo st m G.ready;
  rings = rep_still (view st) (view (with_undo st m)) (λ s. refl) (λ s. refl) h.runs G.rings;
  generation = G.generation;
  seals = seals_steady (view st) (view (with_undo st m)) (steady_same (view st) (view (with_undo st m)) refl refl refl) h.sealed G.seals;
  sizes = givens_same (view st) (view (with_undo st m)) refl refl h.sizes G.sizes;
  counts = G.counts;
}

-- head and columns are the whole state, where tables keep their lengths
pub state-same : (st st' : State) → Ready st → Still st st' → view st' ≡ view st → st' ≡ st
state-same st st' R S e =
    let H = shaped_of st R.shape in
    let frames = cells_ext frame_width st.head.elems.capacity st'.elems st.elems (omega arith) (S.elems-long ∙ H.elems.long) H.elems.long columns in
    let headers = cells_ext header_width st.head.shared.capacity st'.shared st.shared (omega arith) (S.shared_long ∙ H.shared.long) H.shared.long fields in
    λ i. record { head = ap (λ (v : View). v.head) e i; elems = frames i; shared = headers i }
  where
    columns : (f : ℕ) → f < frame_width → cell frame_width st'.elems f ≡ cell frame_width st.elems f
    columns zero l = ap (λ (v : View). v.gen) e
    columns (suc zero) l = ap (λ (v : View). v.pay) e
    columns (suc (suc zero)) l = ap (λ (v : View). v.class) e
    columns (suc (suc (suc zero))) l = ap (λ (v : View). v.prev) e
    columns (suc (suc (suc (suc zero)))) l = ap (λ (v : View). v.next) e
    columns (suc (suc (suc (suc (suc zero))))) l = ap (λ (v : View). v.bytes) e
    columns (suc (suc (suc (suc (suc (suc f)))))) l = absurd (omega arith)

    fields : (f : ℕ) → f < header_width → cell header_width st'.shared f ≡ cell header_width st.shared f
    fields zero l = ap (λ (v : View). v.count) e
    fields (suc zero) l = ap (λ (v : View). v.value) e
    fields (suc (suc zero)) l = ap (λ (v : View). v.chain) e
    fields (suc (suc (suc zero))) l = ap (λ (v : View). v.mark) e
    fields (suc (suc (suc (suc zero)))) l = ap (λ (v : View). v.total) e
    fields (suc (suc (suc (suc (suc f))))) l = absurd (omega arith)
