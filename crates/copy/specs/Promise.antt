-- The rules of a copy keep what specs/Meaning.antt says; and so does each call that makes one.
use Rattle.std.proofs.Math.Path.{◌≡◌, refl, sym, ap, subst}
use Rattle.std.proofs.Common.{◌∙◌, inl, arith, leb-true}
use Rattle.std.specs.Prelude.{Bool, true, false, ◌&&◌, List, length, get_or, leb, Ok, Err}
use Prim.Native.Nat.{ℕ, ◌+◌}
use Rattle.cell.specs.declared.Kind.{Kind}
use Rattle.cell.specs.declared.Kind.TheVariants.{Var, Str, Lis, Atom, Fixnum, Bad}
use Rattle.cell.specs.Kinds.{kind_of}
use Rattle.cell.specs.declared.Refusal.{Refusal}
use Rattle.cell.specs.declared.Refusal.TheVariants.{Cells, Root, Work, Room}
use Rattle.store.specs.Store.{limit, kind_at, term_at, well_formed}
use Rattle.store.specs.WellFormed.{parts}
use Rattle.trail.specs.State.{done, refused, need, ◌then◌, unless, Answer}
use Rattle.trail.specs.Facts.{trail_over, marks_over}
use Rattle.cycle.specs.Graph.{Cyclic}
use Rattle.cycle.specs.Room.{room_of}
use Rattle.chains.specs.Work.{work_need, cleared}
use Rattle.terms.specs.Term.{Term}
use Rattle.terms.specs.Finite.{StandsAt, acyclic_stands}
use Rattle.copy.specs.Rules.{copied}
use Rattle.copy.specs.Calls.{Lent, flaw, grown, copying}
use Rattle.copy.specs.Inv.{Given, From, Match, End, Inv}
use Rattle.copy.specs.Whole.{all_copied}
use Rattle.copy.specs.Meaning.{Shown, NamesNew, renamed, Copy}
use Rattle.copy.specs.Same.{at, below, str_run, lis_run, shaped, root_agrees, var_fresh, var_apart, str_apart, lis_apart, mixed_apart, exact_room}
use Rattle.copy.specs.Formed.{formed}
use Rattle.copy.specs.Finite.{from_stands}

module _ {s : List ℕ} {top root : ℕ} (gv : Given s top root) where
  module _ {cells tables : List ℕ} {end : ℕ} (I : Inv s top root cells tables end end) where
    names_new : (q x : ℕ) → From s top root tables q x → NamesNew top (kind_at cells q)
    unfolding Match Shown NamesNew
    names_new q x f = go (kind_of (End s top root x)) refl (I.done q x f (below gv I q x f).1) (shaped gv I q x f)
      where
        is : (k : Kind) → kind_at cells q ≡ k → NamesNew top k → NamesNew top (kind_at cells q)
        is k e h = subst (NamesNew top) (sym e) h

        go : (k : Kind) → kind_of (End s top root x) ≡ k → Match s top root tables (get_or cells q 0) (End s top root x) k → Shown s cells (at gv I) (From s top root tables) q (End s top root x) k → NamesNew top (kind_at cells q)
        go (Var v) e (l, z, w) (t, a, d) = is (Var _) a (I.homes v l z).0
        go (Str b) e (l, z, w) (t, a, d) = is (Str _) t (let y = (I.run b _ _ (str_run gv I b l z)).2 in omega arith)
        go (Lis b) e (l, z, w) (t, a, d) = is (Lis _) t (let y = (I.run b _ _ (lis_run gv I b l z)).2 in omega arith)
        go (Atom n a) e m w = is (Atom n a) (ap kind_of w ∙ e) tt
        go (Fixnum z) e m w = is (Fixnum z) (ap kind_of w ∙ e) tt
        go Bad e m w = absurd w

    kept : Copy s top root cells end
    kept =
        let lo = I.low in
        record {
          room = exact_room gv I;
          old = I.agree;
          inside = λ q a b. let c = I.cover q a b in names_new q c.0 c.1;
          places = at gv I;
          fresh = var_fresh gv I;
          apart = var_apart gv I;
          structures_apart = str_apart gv I;
          pairs_apart = lis_apart gv I;
          kinds_apart = mixed_apart gv I;
          same = root_agrees gv I;
          finite = λ t. from_stands gv I t top root (inl (refl, refl));
          well_formed_lem = formed gv I;
          trail_good_lem = λ trail trailed. trail_over s cells top end trail trailed (omega arith) I.agree;
          marks_good_lem = λ trailed marks marked. marks_over top end trailed marks marked (omega arith);
        }

  -- what the rules compute is a copy
  pub copy_promise : Copy s top root (copied s top root).cells (copied s top root).end
  copy_promise = kept (all_copied gv)

  -- a root that reaches no cycle stands for a finite term, and its copy for that term with the variables replaced
  pub copy_finite : (Cyclic s root → ⊥) → (t : Term) × StandsAt s top t root × StandsAt (copied s top root).cells (copied s top root).end (renamed copy_promise.places.variables t) top
  copy_finite n = let o = acyclic_stands s top gv.wf root gv.term n in (o.term, o.stands, copy_promise.finite o.term o.stands)

-- ---- calls
module _ (h h' : Lent) (root : ℕ) where
  -- a copy that is made answers the old `top`, clears the work buffer, and is a copy
  pub call_promise : (n : ℕ) → copying h root ≡ (done n, h') → (n ≡ h.top) × (h'.work ≡ cleared (work_need h.top) h.work) × Copy h.cells h.top root h'.cells h'.top
  unfolding copying
  call_promise n =
      go (well_formed h.cells h.top) refl (term_at h.cells h.top root) refl (leb (work_need h.top) (length h.work)) refl
      (leb up limit) refl (leb up (length h.cells)) refl
    where
      up : ℕ
      up = h.top + room_of h.cells h.top root

      no : (r : Refusal) → refused r ≡ done n → ⊥
      no r e = let z : ◌≡◌ {A = ℕ} 0 1 = cc in omega arith

      go : (a : Bool) → well_formed h.cells h.top ≡ a → (b : Bool) → term_at h.cells h.top root ≡ b → (w : Bool) → leb (work_need h.top) (length h.work) ≡ w → (x : Bool) → leb up limit ≡ x → (y : Bool) → leb up (length h.cells) ≡ y
          → unless (need a Cells then need b Root then need w Work then need (x && y) Room) h (done h.top, grown h root) ≡ (done n, h')
          → (n ≡ h.top) × (h'.work ≡ cleared (work_need h.top) h.work) × Copy h.cells h.top root h'.cells h'.top
      go true a true b true w true x true y e =
          let g : Given h.cells h.top root = record { wf = parts h.cells h.top a; term = b; fits = leb-true up (length h.cells) y; lim = leb-true up limit x } in
          let d : done h.top ≡ done n = ap (λ z. z.0) e in
          let t : grown h root ≡ h' = ap (λ z. z.1) e in
          let m : n ≡ h.top = cc in
          (m, sym (ap (λ (l : Lent). l.work) t), subst (λ (l : Lent). Copy h.cells h.top root l.cells l.top) t (copy_promise g))
      go true a true b true w true x false y e = absurd (no Room (ap (λ z. z.0) e))
      go true a true b true w false x y y' e = absurd (no Room (ap (λ z. z.0) e))
      go true a true b false w x x' y y' e = absurd (no Work (ap (λ z. z.0) e))
      go true a false b w w' x x' y y' e = absurd (no Root (ap (λ z. z.0) e))
      go false a b b' w w' x x' y y' e = absurd (no Cells (ap (λ z. z.0) e))

  -- a refusal changes no lent word
  pub call_refused : (r : Refusal) → copying h root ≡ (refused r, h') → h' ≡ h
  unfolding copying
  call_refused r = go (flaw h root)
    where
      go : (a : Answer) → unless a h (done h.top, grown h root) ≡ (refused r, h') → h' ≡ h
      go (Ok tt) e = let d : done h.top ≡ refused r = ap (λ z. z.0) e in let z : ◌≡◌ {A = ℕ} 0 1 = cc in absurd (omega arith)
      go (Err q) e = sym (ap (λ z. z.1) e)
