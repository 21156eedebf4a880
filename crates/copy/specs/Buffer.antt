-- The parts of the work buffer: a copy's tables, and behind them what is remembered of chains.
use Rattle.std.specs.Prelude.{◌≡◌, refl, List, ℕ, ◌+◌, ◌-◌, ◌≤◌, length, get_or, take, drop, replicate}
use Rattle.std.proofs.Common.{sym, ap, ◌∙◌, arith, get_or-take, get_or-drop, ext_get_or, length-take-le}
use Rattle.std.proofs.lemmas.List.{length-replicate}
use Rattle.store.specs.Zeros.{zero_at}
use Rattle.chains.specs.Work.{work_need, cleared}
use Rattle.chains.specs.Cleared.{cleared_long, cleared_zero, cleared_other, cleared_same}
use Rattle.chains.specs.Chains.{Hops}
use Rattle.chains.specs.Hops.{hops_none}
use Rattle.copy.specs.Rules.{table_words}

-- the part of the work buffer that holds the three tables
abbrev pub tables_of : ℕ → List ℕ → List ℕ
tables_of top work = take (table_words top) work

-- the part behind it, where shortcuts along Vars are remembered
abbrev pub hops_of : ℕ → List ℕ → List ℕ
hops_of top work = drop (table_words top) work

-- how many words a copy uses
abbrev pub used_words : ℕ → ℕ
used_words top = table_words top + top

-- no word behind them has changed
pub record Kept (top : ℕ) (old new : List ℕ) : Type 0 where
  pub long : length new ≡ length old
  pub rest : (j : ℕ) → used_words top ≤ j → get_or new j 0 ≡ get_or old j 0

pub kept_none : (top : ℕ) (work : List ℕ) → Kept top work work
kept_none top work = record { long = refl; rest = λ j _. refl }

pub kept_more : {top : ℕ} {a b c : List ℕ} → Kept top a b → Kept top b c → Kept top a c
kept_more p q = record { long = q.long ∙ p.long; rest = λ j h. q.rest j h ∙ p.rest j h }

-- where the words from the tables' end on are the same
pub kept_tables : (top : ℕ) (old new : List ℕ) → length new ≡ length old → hops_of top new ≡ hops_of top old → Kept top old new
kept_tables top old new l e = record { long = l; rest = λ j h. at j (j - table_words top) (omega arith) }
  where
    at : (j k : ℕ) → table_words top + k ≡ j → get_or new j 0 ≡ get_or old j 0
    at j k q = ap (λ (i : ℕ). get_or new i 0) (sym q) ∙ sym (get_or-drop (table_words top) new k 0) ∙ ap (λ (x : List ℕ). get_or x k 0) e ∙ get_or-drop (table_words top) old k 0 ∙ ap (λ (i : ℕ). get_or old i 0) q

-- a buffer whose first words are cleared: empty tables, and nothing remembered
module _ (s : List ℕ) (top : ℕ) (work : List ℕ) (l : work_need top ≤ length work) where
  enough : used_words top ≤ length work
  enough = omega arith

  pub cleared_tables : tables_of top (cleared (used_words top) work) ≡ replicate (table_words top) 0
  cleared_tables =
      let c = cleared_long (used_words top) work enough in
      let z = length-replicate {A = ℕ} (table_words top) 0 in
      let t = length-take-le (table_words top) (cleared (used_words top) work) (omega arith) in
      ext_get_or 0 _ _ (omega arith) (λ i h. get_or-take (table_words top) _ i 0 (omega arith) ∙ cleared_zero (used_words top) work enough i (omega arith) ∙ sym (zero_at (table_words top) i))

  pub cleared_hops : Hops s top (hops_of top (cleared (used_words top) work))
  cleared_hops = hops_none s top _ (λ i h. get_or-drop (table_words top) _ i 0 ∙ cleared_zero (used_words top) work enough (table_words top + i) (omega arith))

  -- and after a copy cleared whole
  pub cleared_kept : (new : List ℕ) → Kept top (cleared (used_words top) work) new → cleared (work_need top) new ≡ cleared (work_need top) work
  cleared_kept new k = cleared_same (work_need top) work new (k.long ∙ cleared_long (used_words top) work enough) (λ i h. k.rest i (omega arith) ∙ cleared_other (used_words top) work enough i (omega arith))
