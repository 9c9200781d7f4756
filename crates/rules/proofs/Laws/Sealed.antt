-- Ticket 1, seal: the columns after it, and that it keeps a sound state.
use mathlib.Core.Path.{◌≡◌, refl}
use mathlib.Core.Logic.{◌≢◌}
use Prim.Native.Nat.{ℕ}
use Rattle.rules.specs.Tables.{blank, remembering, header_width, header_at, State}
use Rattle.rules.specs.Seals.{sealed}
use Rattle.rules.specs.Calls.{Ready}
use Rattle.rules.proofs.Laws.Columns.{upd, cols, length-put}
use Rattle.rules.proofs.Laws.Marked.{marked-set}
use Rattle.rules.proofs.Laws.Working.{View, view, view_path, Working}
use Rattle.rules.proofs.Laws.Soundness.{shaped_of}
use Rattle.rules.proofs.Laws.Safe.{working}
use Rattle.rules.proofs.Laws.Stored.{ready-still, live_stored}

unfoldable pub seal_v : View → (c : ℕ) → View
seal_v v c = record {
  head = remembering v.head blank;
  gen = v.gen;
  pay = v.pay;
  class = v.class;
  prev = v.prev;
  next = v.next;
  bytes = v.bytes;
  count = v.count;
  value = v.value;
  chain = v.chain;
  mark = upd v.mark c 1;
  total = v.total;
}

pub seal-sound : (v : View) → Working v → (c : ℕ) → v.count c ≢ 0 → Working (seal_v v c)
unfolding seal_v
seal-sound v W c h = record {
  least = W.least;
  most = W.most;
  elems = W.elems;
  shared = W.shared;
  gens = W.gens;
  zeros = W.zeros;
  value-zero = W.value-zero;
  chain-zero = W.chain-zero;
  marks = marked-set v.mark v.count W.marks c h;
  sizes = W.sizes;
  links = W.links;
  class-live = W.class-live;
  ring = W.ring;
}

module _ (st : State) (R : Ready st) (c : ℕ) (h : (view st).count c ≢ 0) where
  pub sealed_view : view (sealed st c) ≡ seal_v (view st) c
  unfolding sealed seal_v
  sealed_view =
      let s = live_stored (shaped_of st R.shape).shared (working st R).shared c h in
      view_path _ _ refl refl refl refl refl refl refl (search cols) (search cols) (search cols) (search cols) (search cols)

  pub seal_keeps : Ready (sealed st c)
  unfolding sealed
  seal_keeps =
      ready-still R (record { elems = refl; shared = refl; elems-long = refl; shared_long = length-put header_width st.shared c header_at.mark 1 })
      (rw sealed_view (seal-sound (view st) (working st R) c h))
