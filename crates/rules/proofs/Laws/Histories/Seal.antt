-- Ticket 1, seal: the runs stay, and the keys of this one are sealed.
use mathlib.Core.Path.{◌≡◌, refl, sym, ap, ◌∙◌}
use mathlib.Core.Logic.{◌⊎◌, inl, inr}
use mathlib.Core.List.{List, ◌∷◌, ◌++◌}
use Prim.Native.Nat.{ℕ}
use native.Mathlib.Decide.{ℕ_discrete}
use Rattle.rules.specs.declared.Key.{Key}
use Rattle.rules.specs.Tables.{State}
use Rattle.rules.specs.Seals.{sealed}
use Rattle.rules.specs.Calls.{seal}
use Rattle.rules.specs.History.{History, others_of, accepted}
use Rattle.rules.proofs.Laws.Lists.{In, all_append, all_map, all-at, in_left, in_right, in_parts}
use Rattle.rules.proofs.Laws.Columns.{upd_same, upd_other}
use Rattle.rules.proofs.Laws.Working.{View, view, Working}
use Rattle.rules.proofs.Laws.Safe.{working}
use Rattle.rules.proofs.Laws.Sealed.{seal_v, sealed_view, seal_keeps}
use Rattle.rules.proofs.Laws.Rep.{LiveKey}
use Rattle.rules.proofs.Laws.Classes.{Run, one_class, own-run}
use Rattle.rules.proofs.Laws.Steady.{mark_at}
use Rattle.rules.proofs.Laws.Seals.{flag, flag_in, flag_same, Seals}
use Rattle.rules.proofs.Laws.Givens.{givens_same}
use Rattle.rules.proofs.Laws.Good.{Good, run-from}
use Rattle.rules.proofs.Laws.Histories.Gone.{rep_still}

-- the whole run of `k` is sealed
seals_run : (v : View) → Working v → (k : Key) (xs : List Key) → Run v (k ∷ xs) → (ss : List Key) → Seals v ss → Seals (seal_v v (v.class k.slot)) ((k ∷ xs) ++ ss)
unfolding seal_v
seals_run v W k xs r ss S = record {
  live = all_append (LiveKey v') (k ∷ xs) ss (all_map on (k ∷ xs) r.live) (all_map on ss S.live);
  marked = λ j l. marked j (record { live = l.live; gen = l.gen }) (ℕ_discrete (v.class j.slot) (v.class k.slot));
}
  where
    v' : View
    v' = seal_v v (v.class k.slot)

    on : (j : Key) → LiveKey v j → LiveKey v' j
    on j l = record { live = l.live; gen = l.gen }

    marked : (j : Key) → LiveKey v j → Dec (v.class j.slot ≡ v.class k.slot) → mark_at v' j.slot ≡ flag j ((k ∷ xs) ++ ss)
    marked j l (yes e) = rw (e, upd_same) (sym (flag_in j ((k ∷ xs) ++ ss) (in_left j (k ∷ xs) ss (own-run v W k xs r j l e))))
    marked j l (no e) = upd_other v.mark (v.class k.slot) 1 (v.class j.slot) e ∙ S.marked j l ∙ flag_same j ss ((k ∷ xs) ++ ss) (in_right j (k ∷ xs) ss) (λ m. elsewhere (in_parts j (k ∷ xs) ss m))
      where
        elsewhere : In j (k ∷ xs) ⊎ In j ss → In j ss
        elsewhere (inl m) = absurd (e (all-at (λ x. v.class x.slot ≡ v.class k.slot) j (k ∷ xs) (one_class v W k xs r) m))
        elsewhere (inr m) = m

module _ (st : State) (h : History) (G : Good st h) (k : Key) (l : LiveKey (view st) k) where
  abbrev c : ℕ
  c = (view st).class k.slot

  pub good-seal : (values : List ℕ) → Good (sealed st ((view st).class k.slot)) (accepted h (seal k) values)
  unfolding seal_v
  good-seal values =
      let W = working st G.ready in
      let n = W.class-live k.slot l.live in
      let e = sealed_view st G.ready c n in
      record {
        ready = seal_keeps st G.ready c n;
        rings = rw e (rep_still (view st) (seal_v (view st) c) (λ s. refl) (λ s. refl) h.runs G.rings);
        generation = ap (λ (v : View). v.head.generation) e ∙ G.generation;
        seals = rw e (seals_run (view st) W k (others_of k h.runs) (run-from st h G k l) h.sealed G.seals);
        sizes = rw e (givens_same (view st) (seal_v (view st) c) refl refl h.sizes G.sizes);
        counts = G.counts;
      }
