-- What following a scanned cell finds, and what it leaves of the work buffer.
use Rattle.std.specs.Prelude.{◌≡◌, refl, List, ℕ, ◌<◌, length}
use Rattle.cell.specs.declared.Kind.{Kind}
use Rattle.store.specs.Store.{kind_at}
use Rattle.chains.specs.Chains.{Hops}
use Rattle.copy.specs.Buffer.{tables_of, hops_of, Kept, kept_none}

-- the cell at `at` was read, and is of this kind
pub record Ended (cells : List ℕ) (at : ℕ) (kind : Kind) : Type 0 where
  pub inside : at < length cells
  pub is : kind ≡ kind_at cells at

-- the tables are as they were, and what is remembered of chains is true
pub record Followed (cells : List ℕ) (top : ℕ) (old new : List ℕ) : Type 0 where
  pub tables : tables_of top new ≡ tables_of top old
  pub hops : Hops cells top (hops_of top new)
  pub kept : Kept top old new

pub followed_none : (cells : List ℕ) (top : ℕ) (work : List ℕ) → Hops cells top (hops_of top work) → Followed cells top work work
followed_none cells top work h = record { tables = refl; hops = h; kept = kept_none top work }
