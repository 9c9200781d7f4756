-- A compression of either kind leads from good states to good states: the frames have new keys, and none of them is lost (Rules 14, Ticket 3); sealed runs stay sealed (Ticket 1).
use mathlib.Core.Path.{◌≡◌, refl, sym, ap, ◌∙◌, subst}
use mathlib.Core.Logic.{◌≢◌}
use mathlib.Core.Bool.{Bool}
use mathlib.Core.List.{List, [], ◌∷◌, map}
use Prim.Native.Nat.{ℕ}
use native.Mathlib.Omega.{arith}
use lib.ListN.{length, length-map}
use Rattle.rules.specs.declared.Key.{Key}
use Rattle.rules.specs.Notation.{flat}
use Rattle.rules.specs.Tables.{State}
use Rattle.rules.specs.Compress.{canonical_frames, canonical_classes, renumbered_in, renumbered, generation_after}
use Rattle.rules.specs.Calls.{compress}
use Rattle.rules.specs.History.{History, Given, given_for, named_anew, ordered, renamed, renaming, by_run, accepted}
use Rattle.rules.proofs.Laws.Lists.{All, In, all_map, all-at, all_image, all_parts, in_map, in_image}
use Rattle.rules.proofs.Laws.Working.{View, view, Working}
use Rattle.rules.proofs.Laws.Safe.{working}
use Rattle.rules.proofs.Laws.Order.{Listed, frames_listed, classes_listed}
use Rattle.rules.proofs.Laws.Compress.{compressed, by_place, own_renumbers, own_keeps}
use Rattle.rules.proofs.Laws.Renumber.{Renaming, Renumbered}
use Rattle.rules.proofs.Laws.Rep.{key_at, LiveKey, Rep, key_live}
use Rattle.rules.proofs.Laws.Steady.{mark_at}
use Rattle.rules.proofs.Laws.Seals.{flag, flag-both, Seals}
use Rattle.rules.proofs.Laws.Givens.{Givens, given-renamed, given-live}
use Rattle.rules.proofs.Laws.Good.{Good}
use Rattle.rules.proofs.Laws.Histories.Renumber.{flat_image, rekeyed, rep_renumbered}
use Rattle.rules.proofs.Laws.Histories.Compress.{renamed-is}

-- ---- any renumbering
module _ (v v' : View) (m : Renaming) (N : Renumbered v v' m) (W : Working v) where
  abbrev new : Key → Key
  new = rekeyed v v' m N W

  -- a live key's frame keeps its mark
  pub mark_carried : (s : ℕ) → v.gen s ≢ 0 → mark_at v' (m.new s) ≡ mark_at v s
  mark_carried s h = ap v'.mark (N.classes s h) ∙ N.marks (v.class s) (W.class-live s h)

  -- every live key is a new name
  pub named : (k : Key) → LiveKey v' k → (j : Key) × LiveKey v j × (new j ≡ k)
  named k l =
      let i = N.into k.slot l.live in
      let s = m.old k.slot in
      (key_at v s, record { live = i.0; gen = refl }, ap (key_at v') i.1 ∙ key_live v' k l)

  pub new_one : (j k : Key) → LiveKey v j → LiveKey v k → new j ≡ new k → j ≡ k
  new_one j k lj lk e =
      let s : j.slot ≡ k.slot = sym (N.out j.slot lj.live).1 ∙ ap m.old (ap (λ (x : Key). x.slot) e) ∙ (N.out k.slot lk.live).1 in
      sym (key_live v j lj) ∙ ap (key_at v) s ∙ key_live v k lk

  pub seals_renumbered : (ss : List Key) → Seals v ss → Seals v' (map new ss)
  seals_renumbered ss S = record {
    live = all_image new (LiveKey v') ss (all_map (λ k l. record { live = (N.out k.slot l.live).0; gen = refl }) ss S.live);
    marked = λ k l. let t = named k l in subst (λ (x : Key). mark_at v' x.slot ≡ flag x (map new ss)) t.2 (of t.0 t.1);
  }
    where
      of : (j : Key) → LiveKey v j → mark_at v' (new j).slot ≡ flag (new j) (map new ss)
      of j l = mark_carried j.slot l.live ∙ S.marked j l ∙ same
        where
          back : In (new j) (map new ss) → In j ss
          back i = let t = in_image new (new j) ss i in subst (λ (x : Key). In x ss) (sym (new_one j t.0 l (all-at (LiveKey v) t.0 ss S.live t.1) t.2)) t.1

          same : flag j ss ≡ flag (new j) (map new ss)
          same = flag-both j (new j) ss (map new ss) (in_map new j ss) back

  pub givens_renumbered : (gs : List Given) → Givens v gs → Givens v' (map (named_anew new) gs)
  givens_renumbered gs G = record {
    live = all_image (named_anew new) (λ g. LiveKey v' g.key) gs (all_map (λ g l. record { live = (N.out g.key.slot l.live).0; gen = refl }) gs G.live);
    given = λ k l. let t = named k l in subst (λ (x : Key). v'.bytes x.slot ≡ given_for x (map (named_anew new) gs)) t.2
        (N.sizes t.0.slot t.1.live ∙ G.given t.0 t.1 ∙ sym (given-renamed (LiveKey v) new new_one t.0 t.1 gs G.live));
  }

-- ---- two ways to name keys that agree on some of them
pub all_live : (P : Key → Type 0) (f g : Key → Key) (ks : List Key) → ((k : Key) → P k → f k ≡ g k) → All P ks → map f ks ≡ map g ks
all_live P f g [] e a = refl
all_live P f g (k ∷ ks) e a = rw (e k a.0, all_live P f g ks e a.1)

map-live : (P : Key → Type 0) (f g : Key → Key) (h : List (List Key)) → ((k : Key) → P k → f k ≡ g k) → All P (flat h) → map (map f) h ≡ map (map g) h
map-live P f g [] e a = refl
map-live P f g (r ∷ h) e a = let p = all_parts P r (flat h) a in rw (all_live P f g r e p.0, map-live P f g h e p.1)

-- what renumbered tables hold of a history, where the live keys get the names that `new` gives
pub record Carried (v : View) (rs : List (List Key)) (ss : List Key) (gs : List Given) : Type 0 where
  pub rings : Rep v rs
  pub seals : Seals v ss
  pub sizes : Givens v gs

pub carried : (v v' : View) (m : Renaming) (N : Renumbered v v' m) (W : Working v) (new : Key → Key) → ((k : Key) → LiveKey v k → rekeyed v v' m N W k ≡ new k)
    → (rs : List (List Key)) (ss : List Key) (gs : List Given) → Carried v rs ss gs → Carried v' (map (map new) rs) (map new ss) (map (named_anew new) gs)
carried v v' m N W new told rs ss gs C = record {
  rings = subst (λ (q : List (List Key)). Rep v' q) (map-live (LiveKey v) (rekeyed v v' m N W) new rs told C.rings.live) (rep_renumbered v v' m N W rs C.rings);
  seals = subst (λ (q : List Key). Seals v' q) (all_live (LiveKey v) (rekeyed v v' m N W) new ss told C.seals.live) (seals_renumbered v v' m N W ss C.seals);
  sizes = subst (λ (q : List Given). Givens v' q) (given-live (LiveKey v) (rekeyed v v' m N W) new gs told C.sizes.live) (givens_renumbered v v' m N W gs C.sizes);
}

-- THE STEP, of any compression in its own tables whose new keys are those that `new` gives
module _ (st : State) (h : History) (G : Good st h) (fs cs : List ℕ) (E : Listed (view st).gen fs) (C : Listed (view st).count cs) (reset : Bool) where
  -- the live keys get the names that `new` gives
  abbrev pub Told : (Key → Key) → Type 0
  Told new = (k : Key) → LiveKey (view st) k → rekeyed (view st) (view (renumbered st fs cs (generation_after reset st.head.generation))) (by_place fs cs) (own_renumbers st (working st G.ready) fs cs E C reset) (working st G.ready) k ≡ new k

  pub good-renumbered : (new : Key → Key) → Told new → Good (renumbered st fs cs (generation_after reset st.head.generation)) (renaming h reset new)
  unfolding renumbered_in
  good-renumbered new told =
      let v = view st in
      let v' = view (renumbered st fs cs (generation_after reset st.head.generation)) in
      let W = working st G.ready in
      let D = carried v v' (by_place fs cs) (own_renumbers st W fs cs E C reset) W new told h.runs h.sealed h.sizes (record { rings = G.rings; seals = G.seals; sizes = G.sizes }) in
      record {
        ready = own_keeps st G.ready fs cs E C reset;
        rings = D.rings;
        generation = ap (generation_after reset) G.generation;
        seals = D.seals;
        sizes = D.sizes;
        counts = omega (arith, ap length (flat_image new h.runs), length-map (flat h.runs) new, G.counts);
      }

-- ---- canonical compression
pub canonical-told : (st : State) (h : History) (G : Good st h) (reset : Bool) → Told st h G (canonical_frames st) (canonical_classes st) (frames_listed st (working st G.ready)) (classes_listed st (working st G.ready)) reset (by_run h reset)
canonical-told st h G reset =
    let W = working st G.ready in
    subst (λ (i : ℕ). Told st h G (canonical_frames st) (canonical_classes st) (frames_listed st W) (classes_listed st W) reset (renamed (generation_after reset i) (ordered h.runs))) G.generation (renamed-is st W reset h.runs G.rings)

pub good-compress : (st : State) (h : History) → Good st h → (reset : Bool) (values : List ℕ) → Good (compressed st reset) (accepted h (compress reset) values)
good-compress st h G reset values = let W = working st G.ready in good-renumbered st h G (canonical_frames st) (canonical_classes st) (frames_listed st W) (classes_listed st W) reset (by_run h reset) (canonical-told st h G reset)
