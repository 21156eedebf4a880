-- Where a run binds no variable to a Str or a Lis, no cycle comes of it, so there is nothing to test.
use Rattle.std.specs.Prelude.{◌≡◌, true, List, ℕ, ◌-◌, ◌<◌, ◌≤◌, get_or}
use Rattle.std.proofs.Math.Path.{refl, ap, subst}
use Rattle.std.proofs.Common.{sym, ◌∙◌, arith}
use Rattle.std.proofs.Math.Bool.{false}
use Rattle.std.proofs.lemmas.Bool.{false≢true}
use Rattle.std.proofs.Math.Logic.{⊎_elim}
use Rattle.cell.specs.declared.Kind.{Kind}
use Rattle.cell.specs.declared.Kind.TheVariants.{Var, Str, Lis, Atom, Fixnum, Bad}
use Rattle.cell.specs.Word.{var_word}
use Rattle.cell.specs.Kinds.{kind_of}
use Rattle.store.specs.All.{all_holds}
use Rattle.store.specs.Store.{kind_at, term_at, step, step_kind, end_of, WellFormed}
use Rattle.store.specs.WellFormed.{along}
use Rattle.trail.specs.State.{State}
use Rattle.cycle.specs.Verdict.{cyclic_at}
use Rattle.terms.specs.View.{Constant, View, free, con, nod, Shape, view_kind, look_at, shape_of}
use Rattle.terms.specs.Shows.{look_here, look_over}
use Rattle.terms.specs.Term.{Term, variable, constant, compound, Terms, many, nth, term_ind}
use Rattle.terms.specs.Stands.{Stands, stands_arg, stands_args}
use Rattle.terms.specs.Finite.{StandsAt}
use Rattle.unification.specs.Machine.{Machine, yes, run, start, fuel}
use Rattle.unification.specs.Substitution.{inst, insts, many_insts, nth_insts}
use Rattle.unification.specs.Nodes.{free_self, free_used, free_end}
use Rattle.unification.specs.Write.{var_word_lem, word_var}
use Rattle.unification.specs.Live.{Live}
use Rattle.unification.specs.PlainThenTest.{Grows}
use Rattle.unification.proofs.PlainThenTest.{live_end, later_end, finite_straight}
use Rattle.unification.specs.Flat.{flat_kind, entry_flat, bound_flat}

-- a variable or a constant is shown
abbrev Simple : View → Type 0
Simple (free v) = Unit {0}
Simple (con c) = Unit {0}
Simple (nod n) = ⊥

-- a cell that stays and holds neither a Str nor a Lis shows one
flat_view : (cells : List ℕ) (k : Kind) → flat_kind k ≡ true → Simple (view_kind cells k)
unfolding view_kind
flat_view cells (Var v) h = tt
flat_view cells (Str v) h = absurd (false≢true h)
flat_view cells (Lis v) h = absurd (false≢true h)
flat_view cells (Atom n a) h = tt
flat_view cells (Fixnum z) h = tt
flat_view cells Bad h = tt

-- the term of what is shown, where it is simple
unfoldable simple : View → Term
simple (free v) = variable v
simple (con c) = constant c
simple (nod n) = variable n

module _ (s : State) (wf : WellFormed s.cells s.top) (a b : ℕ) (live : Live s (fuel s.top) (start s a b)) (m : Machine) (e : run false s.top (fuel s.top) (start s a b) ≡ yes m) (flat : bound_flat m.cells m.trail s.trailed m.trailed ≡ true) where
  abbrev top : ℕ
  top = s.top

  abbrev sh : Shape
  sh = shape_of s.cells

  abbrev look₀ : ℕ → View
  look₀ = look_at s.cells top

  abbrev look : ℕ → View
  look = look_at m.cells top

  abbrev after : Live s (live_end s wf a b live false m e).0 m
  after = (live_end s wf a b live false m e).1

  -- the cell was an unbound Var at entry
  abbrev Was : ℕ → Type 0
  Was i = get_or s.cells i 0 ≡ var_word i

  -- ---- what a variable has come to
  -- it is unbound still, if its word is the same
  still : (i : ℕ) → i < top → Was i → get_or m.cells i 0 ≡ get_or s.cells i 0 → kind_at m.cells i ≡ Var i
  still i h u q = let g = wf.high in ap kind_of (q ∙ u) ∙ word_var i (omega arith)

  -- it holds neither a Str nor a Lis now
  flat_here : (i : ℕ) → i < top → Was i → flat_kind (kind_at m.cells i) ≡ true
  unfolding bound_flat
  flat_here i h u =
      ⊎_elim (λ q. ap flat_kind (still i h u q))
      (λ n. subst (λ (j : ℕ). flat_kind (kind_at m.cells j) ≡ true) n.3 (let z = n.2 in all_holds (entry_flat m.cells m.trail) (m.trailed - s.trailed) s.trailed flat n.0 n.1 (omega arith)))
      (after.wrote.same i)

  -- the next cell along Vars was unbound too
  was_next : (i : ℕ) → i < top → Was i → Was (step m.cells i)
  unfolding step step_kind
  was_next i h u = go (kind_at m.cells i) refl
    where
      go : (k : Kind) → kind_at m.cells i ≡ k → Was (step_kind i k)
      go (Var w) q =
          ⊎_elim (λ z. let k = still i h u z in let r : w ≡ i = cc in subst Was (sym r) u)
          (λ n. after.wrote.target n.0 n.1 n.2 w (subst (λ (j : ℕ). kind_at m.cells j ≡ Var w) (sym n.3) q))
          (after.wrote.same i)
      go (Str v) q = u
      go (Lis v) q = u
      go (Atom n a) q = u
      go (Fixnum z) q = u
      go Bad q = u

  -- so a variable has come to show no compound
  shows_simple : (i : ℕ) → 1 ≤ i → i < top → Was i → Simple (look i)
  shows_simple =
      along m.cells top after.store (λ (i : ℕ). Was i → Simple (look i))
      (λ i l h q u. subst Simple (sym (look_here m.cells top after.store i l h q)) (flat_view m.cells (kind_at m.cells i) (flat_here i h u)))
      (λ i l h _ r u. subst Simple (sym (look_over m.cells top after.store i l h)) (r (was_next i h u)))

  -- ---- a finite term stays one
  -- what a variable has come to stand for
  abbrev value : ℕ → Term
  value v = simple (look v)

  -- a cell stands for its term at entry with these put for the variables
  still_stands : (t : Term) (i : ℕ) → Stands sh look₀ t i → Stands sh look (inst value t) i
  unfolding simple
  still_stands = term_ind (λ t. (i : ℕ) → Stands sh look₀ t i → Stands sh look (inst value t) i) vars cons cmps
    where
      -- a cell shows what it showed, or what its variable shows
      grown : (i : ℕ) (x : View) → look₀ i ≡ x → Grows look x (look i)
      grown i x q = subst (λ (y : View). Grows look y (look i)) q (later_end s wf a b live false m e i)

      vars : (v i : ℕ) → look₀ i ≡ free v → Stands sh look (value v) i
      vars v i q = go (look v) refl (shows_simple v u.0 u.1 (var_word_lem (get_or s.cells v 0) v f.1))
        where
          self : look₀ v ≡ free v
          self = free_self s.cells top wf i v q

          u : (1 ≤ v) × (v < top)
          u = free_used s.cells top wf v v self

          f : (end_of s.cells top v ≡ v) × (kind_at s.cells v ≡ Var v)
          f = free_end s.cells top wf v v u.0 u.1 self

          go : (y : View) → look v ≡ y → Simple y → Stands sh look (simple y) i
          go (free w) z _ = grown i (free v) q ∙ z
          go (con c) z _ = grown i (free v) q ∙ z
          go (nod n) z none = absurd none

      cons : (c : Constant) (i : ℕ) → look₀ i ≡ con c → look i ≡ con c
      cons c i q = grown i (con c) q

      cmps : (f : ℕ) (ts : Terms) → ((k : ℕ) → k < many ts → (i : ℕ) → Stands sh look₀ (nth ts k) i → Stands sh look (inst value (nth ts k)) i) → (i : ℕ) → Stands sh look₀ (compound f ts) i → Stands sh look (compound f (insts value ts)) i
      cmps f ts ih i h = (
        h.0,
        grown i (nod h.0) h.1,
        h.2 ∙ ap (λ (k : ℕ). (f, k)) (sym (many_insts value ts)),
        stands_args sh look (insts value ts) h.0 (λ k l.
            let l' : k < many ts = rw (many_insts value ts) at l in
            subst (λ (t : Term). Stands sh look t (sh.arg h.0 k)) (sym (nth_insts value ts k)) (ih k l' (sh.arg h.0 k) (stands_arg sh look₀ ts h.0 h.3 k l'))),
      )

  -- so a root that stood for one reaches no cycle
  pub flat_straight : (i : ℕ) → term_at s.cells top i ≡ true → (t : Term) → StandsAt s.cells top t i → cyclic_at m.cells top i ≡ false
  flat_straight i p t h = finite_straight s wf a b live false m e i p (inst value t) (still_stands t i h)
