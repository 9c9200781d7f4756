-- Sets and the four-key exchange leave the history as it is (Rules 1 and 13).
use mathlib.Core.Path.{◌≡◌, refl, ap}
use mathlib.Core.Logic.{◌≢◌}
use mathlib.Core.List.{List}
use Prim.Native.Nat.{ℕ}
use Rattle.rules.specs.Tables.{State, with_shared}
use Rattle.rules.specs.Exchange.{valued}
use Rattle.rules.specs.Calls.{Ready}
use Rattle.rules.specs.History.{History}
use Rattle.rules.proofs.Laws.Lists.{All}
use Rattle.rules.proofs.Laws.Columns.{cols}
use Rattle.rules.proofs.Laws.Working.{View, view}
use Rattle.rules.proofs.Laws.Sets.{set_element_v, element_set, shared_set, element_set-view, set_element-keeps, set_shared-keeps, exchange_keeps, valued-mark}
use Rattle.rules.proofs.Laws.Steady.{steady_same}
use Rattle.rules.proofs.Laws.Seals.{seals_steady}
use Rattle.rules.proofs.Laws.Givens.{givens_same}
use Rattle.rules.proofs.Laws.Good.{Good}
use Rattle.rules.proofs.Laws.Histories.Gone.{rep_still}

module _ (st : State) (h : History) (G : Good st h) where
  -- other shared values
  valued-good : (shared : List ℕ) → Ready (with_shared st shared) → (view (with_shared st shared)).mark ≡ (view st).mark → Good (with_shared st shared) h
  valued-good shared Y e = record {
    ready = Y;
    rings = rep_still (view st) (view (with_shared st shared)) (λ s. refl) (λ s. refl) h.runs G.rings;
    generation = G.generation;
    seals = seals_steady (view st) (view (with_shared st shared)) (steady_same (view st) (view (with_shared st shared)) refl refl e) h.sealed G.seals;
    sizes = givens_same (view st) (view (with_shared st shared)) refl refl h.sizes G.sizes;
    counts = G.counts;
  }

  pub good-set_shared : (c value : ℕ) → (view st).count c ≢ 0 → Good (shared_set st c value) h
  good-set_shared c value n = valued-good (shared_set st c value).shared (set_shared-keeps st G.ready c value n) (search cols)

  pub good-exchange : (cs vs : List ℕ) → All (λ c. (view st).count c ≢ 0) cs → Good (with_shared st (valued st.shared cs vs)) h
  good-exchange cs vs a = valued-good (valued st.shared cs vs) (exchange_keeps cs vs st G.ready a) (valued-mark st.shared cs vs)

  -- another payload
  pub good-set_element : (x payload : ℕ) → (view st).gen x ≢ 0 → Good (element_set st x payload) h
  unfolding set_element_v
  good-set_element x payload l =
      let e = element_set-view st G.ready x payload l in
      record {
        ready = set_element-keeps st G.ready x payload l;
        rings = rep_still (view st) (view (element_set st x payload)) (λ s. ap (λ (v : View). v.gen s) e) (λ s. ap (λ (v : View). v.next s) e) h.runs G.rings;
        generation = G.generation;
        seals = seals_steady (view st) (view (element_set st x payload)) (steady_same (view st) (view (element_set st x payload)) (ap (λ (v : View). v.gen) e) (ap (λ (v : View). v.class) e) (ap (λ (v : View). v.mark) e)) h.sealed G.seals;
        sizes = givens_same (view st) (view (element_set st x payload)) (ap (λ (v : View). v.gen) e) (ap (λ (v : View). v.bytes) e) h.sizes G.sizes;
        counts = G.counts;
      }
