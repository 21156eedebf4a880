-- The last pair: its cells are followed, and what they ask for is decided.
use Rattle.std.specs.Prelude.{◌≡◌, refl, List, ℕ, ◌+◌, ◌<◌, ◌≤◌, length, get_or}
use Rattle.std.proofs.Common.{sym, ap, ◌∙◌}
use Rattle.cell.specs.declared.Kind.{Kind}
use Rattle.store.specs.Store.{kind_at, end_of, WellFormed}
use Rattle.store.specs.WellFormed.{end_stays, steps_in}
use Rattle.chains.specs.Chains.{Hops}
use Rattle.unify.specs.declared.Act.{Act}
use Rattle.unify.specs.declared.Act.TheVariants.{Skip}
use Rattle.unify.specs.Layout.{hops_of, pair_place, pair_at}
use Rattle.unify.specs.Following.{Followed, followed_none, same_word}
use Rattle.unify.specs.Decided.{Stays, Two, Decided}

-- the cells that pair number n comes to, once followed
abbrev pub end_left : List ℕ → ℕ → List ℕ → ℕ → ℕ
end_left cells top work n = end_of cells top (pair_at top work n).0

abbrev pub end_right : List ℕ → ℕ → List ℕ → ℕ → ℕ
end_right cells top work n = end_of cells top (pair_at top work n).1

-- a pair of used cells stands above `pairs` others
pub record Looks (cells : List ℕ) (top : ℕ) (work : List ℕ) (pairs : ℕ) : Type 0 where
  pub store : WellFormed cells top
  pub hops : Hops cells top (hops_of top work)
  pub wide : pair_place top (pairs + 1) ≤ length work
  pub left : (1 ≤ (pair_at top work pairs).0) × ((pair_at top work pairs).0 < top)
  pub right : (1 ≤ (pair_at top work pairs).1) × ((pair_at top work pairs).1 < top)

-- what the pair asks for, and what following it leaves
pub record Looked (cells : List ℕ) (top : ℕ) (w : List ℕ) (pairs : ℕ) (w' : List ℕ) (act : Act) : Type 0 where
  pub decided : Decided cells (end_left cells top w pairs) (kind_at cells (end_left cells top w pairs)) (end_right cells top w pairs) (kind_at cells (end_right cells top w pairs)) act
  pub followed : Followed cells top w w'

-- x and y are the cells of the pair
module _ {cells : List ℕ} {top : ℕ} {w : List ℕ} {pairs : ℕ} (l : Looks cells top w pairs) {x y : ℕ} (ex : x ≡ (pair_at top w pairs).0) (ey : y ≡ (pair_at top w pairs).1) where
  used_x : (1 ≤ x) × (x < top)
  used_x = rw ex l.left

  used_y : (1 ≤ y) × (y < top)
  used_y = rw ey l.right

  pub same_words_lem : get_or cells x 0 ≡ get_or cells y 0 → Looked cells top w pairs w Skip
  same_words_lem e =
      record {
        decided = same_word cells top l.store _ _ l.left l.right (ap (λ (i : ℕ). get_or cells i 0) (sym ex) ∙ e ∙ ap (λ (i : ℕ). get_or cells i 0) ey);
        followed = followed_none cells top w l.hops;
      }

  stays : (i at : ℕ) → (1 ≤ i) × (i < top) → at ≡ end_of cells top i → (k : ℕ) (kind : Kind) → k ≡ at → kind ≡ kind_at cells at → Stays cells top k kind
  stays i at h e k kind p q =
      let u = steps_in cells top l.store top i h.0 h.1 in
      rw (p, q, e) (record { low = u.0; high = u.1; stays = end_stays cells top l.store i h.0 h.1; is = refl })

  -- a and b are where following ends, and what was read there
  module _ {a b : ℕ} (ea : a ≡ end_of cells top x) (eb : b ≡ end_of cells top y) {i : ℕ} {j : Kind} (ei : i ≡ a) (ej : j ≡ kind_at cells a) {k : ℕ} {o : Kind} (ek : k ≡ b) (eo : o ≡ kind_at cells b) where
    pub two_ends : Two cells i j k o
    two_ends = record { top = top; store = l.store; left = stays x a used_x ea i j ei ej; right = stays y b used_y eb k o ek eo }
