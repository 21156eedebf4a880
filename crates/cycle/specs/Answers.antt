-- From the tables of a walk to the answers: the verdict, the marks that a copy's room is counted by, and the links that are enough for it.
use Rattle.std.specs.Prelude.{◌≡◌, Bool, ◌&&◌, List, ◌⊎◌, ℕ, ◌+◌, ◌<◌, ◌≤◌, eqb, get_or}
use Rattle.std.proofs.Math.Path.{refl, ap}
use Rattle.std.proofs.Common.{sym, subst, ◌∙◌, inl, inr, ⊎_elim, eq-eqb, ne_eqb}
use Rattle.std.proofs.Math.Bool.{true, false, cond}
use native.Mathlib.Omega.{arith}
use Rattle.std.proofs.lemmas.Bool.{false≢true}
use Rattle.cell.specs.declared.Kind.TheVariants.{Str, Atom}
use Rattle.cell.specs.Kinds.{by_tag, kind_of}
use Rattle.store.specs.Store.{kind_at, term_at, WellFormed}
use Rattle.store.specs.Steps.{term_used}
use Rattle.cycle.specs.Graph.{Reach, Reaches, here, Accessible, no_cycle}
use Rattle.cycle.specs.Some.{some_below, some_true}
use Rattle.cycle.specs.Kids.{arity_at, head_kind, head, pair_kind, pair, str_atom}
use Rattle.cycle.specs.Links.{links, Link, link_str, acc_edges, acc_links, reach_links, links_reach}
use Rattle.cycle.specs.Verdict.{cyclic_at}
use Rattle.cycle.specs.Cyclic.{false_acc, acc_false}
use Rattle.cycle.specs.Room.{reaches, str_reached, lis_reached, run_room, room_by, room_of, room_same, marked}
use Rattle.cycle.specs.Reached.{found, finds, reach_used, true_str}
use Rattle.cycle.specs.Bound.{if_named, named, room_le}
use Rattle.cycle.specs.Met.{is_met, met_other, if_met, met_links, met_none, met_cover}
use Rattle.cycle.specs.declared.Colour.{Colour}
use Rattle.cycle.specs.Tables.{colour, Done, NoneMet, Names, Walked, none_done}

module _ {s : List ℕ} {top root : ℕ} {col₀ col : List Colour} {met : Bool} (wf : WellFormed s top) (t : term_at s top root ≡ true) (w : Walked s root col₀ col met) where
  -- after tables whose finished cells reach no cycle, a walk answers whether the root does
  pub walked_verdict : ((c : ℕ) → Done col₀ c → Accessible (Link s) c) → met ≡ cyclic_at s top root
  walked_verdict before = let u = term_used s top root t in go met refl (cyclic_at s top root) refl u.0 u.1
    where
      go : (a : Bool) → met ≡ a → (b : Bool) → cyclic_at s top root ≡ b → 1 ≤ root → root < top → a ≡ b
      go true e true q l h = refl
      go true e false q l h = absurd (no_cycle (acc_links s top wf (false_acc s top wf root l h q) t) (w.yes_cyclic e))
      go false e b q l h = sym (acc_false s top wf root l h (acc_edges s (w.no_straight e before root (w.reached root here)))) ∙ q

  -- ---- where no cell was met before
  module _ (none : NoneMet col₀) where
    done_reached : (c : ℕ) → Done col c → Reaches (Link s) root c
    done_reached c d = ⊎_elim (λ e. absurd (none_done col₀ none c e)) (λ r. r) (w.only c d)

    -- what finished cells name, other than Atoms, is what the cells that the root reaches name
    names_found : (g : ℕ → ℕ) → ((x n a : ℕ) → kind_at s x ≡ Atom n a → g x ≡ 0) → (table : List Bool) → Names g top col table → (f : ℕ) → 1 ≤ f → marked table f ≡ some_below top (λ x. reaches s top root x && eqb (g x) f)
    names_found g none table n f pos = let u = term_used s top root t in go u.0 u.1 (marked table f) refl (some_below top (λ x. reaches s top root x && eqb (g x) f)) refl
      where
        by_edges : (x : ℕ) → 1 ≤ root → root < top → g x ≡ f → Reach s root x ⊎ ((y : ℕ) × Reach s root y × (kind_at s y ≡ Str x)) → Reach s root x
        by_edges x l h e (inl r) = r
        by_edges x l h e (inr (y, r, q)) =
            let u = reach_used s top wf l h r in
            let a = str_atom s top wf y u.0 u.1 x q in
            let z = none x a.0 _ a.1 in
            absurd (omega arith)

        go : 1 ≤ root → root < top → (a : Bool) → marked table f ≡ a → (b : Bool) → some_below top (λ x. reaches s top root x && eqb (g x) f) ≡ b → a ≡ b
        go l h true p b q =
            let m = n.only f p in
            sym (finds s top wf root l h g f m.0 (by_edges m.0 l h m.2 (links_reach s top wf t (done_reached m.0 m.1))) m.2) ∙ q
        go l h false p true q =
            let x = found s top wf root l h g f q in
            let u = reach_used s top wf l h x.1 in
            absurd (false≢true (sym p ∙ subst (λ (y : ℕ). get_or table y false ≡ true) x.2 (n.all x.0 u.0 u.1 (w.reached x.0 (reach_links s x.1)) (let e = x.2 in omega arith))))
        go l h false p false q = refl

    -- so the room counted by their marks is the room of a copy
    pub walked_room : (heads pairs : List Bool) (r : ℕ) → Names (head s) top col heads → Names (pair s) top col pairs → r ≡ room_by s top (marked heads) (marked pairs) → r ≡ room_of s top root
    unfolding room_of str_reached lis_reached head head_kind pair pair_kind
    walked_room heads pairs r n m e =
        e ∙ room_same s top (marked heads) (marked pairs) (str_reached s top root) (lis_reached s top root)
        (names_found (head s) (λ x n a q. ap head_kind q) heads n)
        (names_found (pair s) (λ x n a q. ap pair_kind q) pairs m)

    -- ---- the links gone over are enough
    done_met : (x : ℕ) → Done col x → is_met (colour col x) ≡ true
    done_met x d = met_other (colour col x) (λ z. let e = sym z ∙ d in cc)

    coloured : (x : ℕ) → Reach s root x → is_met (colour col x) ≡ true
    coloured x r = done_met x (w.reached x (reach_links s r))

    -- a cell that is reached, and that names f by g, is met
    still_named : (g : ℕ → ℕ) (f : ℕ) → some_below top (λ x. reaches s top root x && eqb (g x) f) ≡ true → named (λ x. if_met col x (g x)) top f ≡ true
    still_named g f e =
        let u = term_used s top root t in
        let x = found s top wf root u.0 u.1 g f e in
        some_true (λ x. eqb (if_met col x (g x)) f) top x.0 (reach_used s top wf u.0 u.1 x.1).1 (rw (coloured x.0 x.1) (eq-eqb (g x.0) f x.2))

    -- and so is the functor cell of a Str that is reached
    head_met : (f : ℕ) → 1 ≤ f → str_reached s top root f ≡ true → is_met (colour col f) ≡ true
    head_met f l e =
        let u = term_used s top root t in
        let x = true_str s top wf root u.0 u.1 f l e in
        done_met f (w.tables.closed x.0 f (w.reached x.0 (reach_links s x.1)) (link_str s x.0 f x.2))

    need : (f : ℕ) → 1 ≤ f → run_room (str_reached s top root f) (lis_reached s top root f) (arity_at s f) ≤ if_met col f (arity_at s f) + (cond (named (λ x. if_met col x (head s x)) top f) (if_named 1 f) 0 + cond (named (λ x. if_met col x (pair s x)) top f) (if_named 2 f) 0)
    unfolding run_room str_reached lis_reached
    need f l = rw (ne_eqb f 0 (λ z. omega arith)) (let a = one (str_reached s top root f) refl in let b = two (lis_reached s top root f) refl in omega arith)
      where
        one : (b : Bool) → str_reached s top root f ≡ b → cond b (1 + arity_at s f) 0 ≤ if_met col f (arity_at s f) + cond (named (λ x. if_met col x (head s x)) top f) 1 0
        one true e = rw (head_met f l e, still_named (head s) f e) (omega arith)
        one false e = omega arith

        two : (b : Bool) → lis_reached s top root f ≡ b → cond b 2 0 ≤ cond (named (λ x. if_met col x (pair s x)) top f) 2 0
        two true e = rw (still_named (pair s) f e) (omega arith)
        two false e = omega arith

    -- a copy needs no more room than 1 and the links of the cells that were met
    pub walked_enough : (m : ℕ) → met_links s top col ≡ met_links s top col₀ + m → room_of s top root ≤ 1 + m
    unfolding room_of met_links head head_kind pair pair_kind kind_of by_tag
    walked_enough m passed =
        let z = met_none s top col₀ none in
        let r = room_le s top wf (str_reached s top root) (lis_reached s top root) (λ f. if_met col f (arity_at s f)) (if_named 1) (if_named 2) (λ x. if_met col x (head s x)) (λ x. if_met col x (pair s x)) (λ c. if_met col c (links s c))
        need
        (nothing 1 (is_met (colour col 0)) (ap (λ (v : ℕ). head_kind (kind_of v)) wf.zeroth))
        (nothing 2 (is_met (colour col 0)) (ap (λ (v : ℕ). pair_kind (kind_of v)) wf.zeroth))
        (met_cover s col) in
        omega arith
      where
        nothing : (m : ℕ) (b : Bool) {x : ℕ} → x ≡ 0 → if_named m (cond b x 0) ≡ 0
        nothing m true e = rw e
        nothing m false e = refl
