-- What the code leaves from one scanned cell to the next, and from the first to the last.
use Rattle.std.specs.Prelude.{◌≡◌, ℕ, ◌+◌, ◌<◌, ◌≤◌, length, get_or, set, take, drop}
use Rattle.std.proofs.Common.{sym, subst, ◌∙◌}
use Rattle.std.proofs.Math.Path.{ap}
use mathlib.Core.List.{List}
use Rattle.cell.specs.declared.Kind.{Kind}
use Rattle.cell.specs.Kinds.{kind_of}
use Rattle.store.specs.Store.{limit}
use Rattle.chains.specs.Chains.{Hops}
use Rattle.chains.specs.Work.{work_need, cleared}
use Rattle.copy.specs.Rules.{State, table_words, end_word, act, scan, scanned, copied}
use Rattle.copy.specs.Inv.{Given, Inv}
use Rattle.copy.specs.Whole.{begun}
use Rattle.copy.specs.Buffer.{tables_of, hops_of, used_words, Kept, kept_more, kept_tables, cleared_tables, cleared_hops, cleared_kept}
use Rattle.copy.specs.Asks.{state_of, Can, Ready, can_whole, can, again}
use Rattle.copy.specs.Followed.{Ended, Followed}
use Rattle.copy.specs.Arms.{act_front, act_behind, act_long, scanned_is}

-- ---- one scanned cell: where following it ends was found, with the work buffer `work₁` after that
module _ (cells work : List ℕ) (top end p : ℕ) (r : Ready cells work top end p) (h : p < end) (work₁ : List ℕ) (f : Followed cells top work work₁) (at : ℕ) (k : Kind) (e : Ended cells at k) (w : get_or cells at 0 ≡ end_word cells top (get_or cells p 0)) where
  pub turn_can : Can cells work₁ top end k
  turn_can =
      can_whole cells work₁ top end k
      (subst (λ (t : List ℕ). Can cells t top end k) (sym f.tables)
      (subst (Can cells (tables_of top work) top end) (sym (e.is ∙ ap kind_of w)) (can cells work top end p r h)))

  module _ (cells₂ work₂ : List ℕ) (end₂ : ℕ) (q : state_of cells₂ work₂ end₂ ≡ act top (state_of cells work₁ end) p (get_or cells at 0) k) where
    pub turn_is : state_of cells₂ (tables_of top work₂) end₂ ≡ scanned top (state_of cells (tables_of top work) end) p
    turn_is =
        ap (λ (t : State). state_of t.cells (take (table_words top) t.tables) t.end) q
        ∙ sym (act_front cells work₁ top end p (get_or cells at 0) k turn_can)
        ∙ ap (λ (t : List ℕ). act top (state_of cells t end) p (get_or cells at 0) k) f.tables
        ∙ ap (act top (state_of cells (tables_of top work) end) p (get_or cells at 0)) e.is
        ∙ scanned_is top p (get_or cells at 0) (state_of cells (tables_of top work) end) w

    behind : hops_of top work₂ ≡ hops_of top work₁
    behind = ap (λ (t : State). drop (table_words top) t.tables) q ∙ act_behind cells work₁ top end p (get_or cells at 0) k turn_can

    long : length work₂ ≡ length work₁
    long = ap (λ (t : State). length t.tables) q ∙ act_long cells work₁ top end p (get_or cells at 0) k

    pub turn_kept : Kept top work work₂
    turn_kept = kept_more f.kept (kept_tables top work₁ work₂ long behind)

    pub turn_ready : Ready cells₂ work₂ top end₂ (p + 1)
    turn_ready = again cells work top end p r h cells₂ work₂ end₂ turn_is (subst (Hops cells top) (sym behind) f.hops)

-- ---- the whole, of a work buffer whose first words are cleared before, and all that are asked for after
module _ (s : List ℕ) (top root : ℕ) (work : List ℕ) (gv : Given s top root) (long : work_need top ≤ length work) (c v : List ℕ) (ce : c ≡ set s top (get_or s root 0)) (clear : v ≡ cleared (used_words top) work) where
  pub ready_first : Ready c v top (top + 1) top
  ready_first =
      subst (λ (x : List ℕ). Ready x v top (top + 1) top) (sym ce)
      (subst (λ (x : List ℕ). Ready (set s top (get_or s root 0)) x top (top + 1) top) (sym clear)
      (record {
        s = s;
        root = root;
        given = gv;
        inv = subst (λ (t : List ℕ). Inv s top root (set s top (get_or s root 0)) t (top + 1) top) (sym (cleared_tables s top work long)) (begun gv);
        hops = cleared_hops s top work long;
      }))

  module _ (t : State) (q : t ≡ scan top limit top (state_of c (tables_of top v) (top + 1))) (v₂ v₃ : List ℕ) (k : Kept top v v₂) (n : ℕ) (is : n ≡ work_need top) (last : v₃ ≡ cleared n v₂) where
    all : t ≡ copied s top root
    unfolding copied
    all =
        q ∙ ap (λ (x : List ℕ). scan top limit top (state_of x (tables_of top v) (top + 1))) ce
        ∙ ap (λ (x : List ℕ). scan top limit top (state_of (set s top (get_or s root 0)) x (top + 1))) (ap (tables_of top) clear ∙ cleared_tables s top work long)

    pub whole_copy : (t.cells ≡ (copied s top root).cells) × (t.end ≡ (copied s top root).end) × (v₃ ≡ cleared (work_need top) work)
    whole_copy = (
      ap (λ (u : State). u.cells) all,
      ap (λ (u : State). u.end) all,
      last ∙ ap (λ (m : ℕ). cleared m v₂) is ∙ cleared_kept s top work long v₂ (subst (λ (x : List ℕ). Kept top x v₂) clear k),
    )
