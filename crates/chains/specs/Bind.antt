-- An unbound Var that gets a word: what is remembered of the chains stays true.
use Rattle.std.specs.Prelude.{◌≡◌, List, ℕ, set}
use Rattle.std.proofs.Common.{sym, ap, ◌∙◌, get_or-set_other}
use Rattle.cell.specs.declared.Kind.TheVariants.{Var}
use Rattle.cell.specs.Kinds.{kind_of}
use Rattle.store.specs.Store.{kind_at, step, step_kind, WellFormed}
use Rattle.chains.specs.Chains.{Hops}
use Rattle.chains.specs.Hops.{chained, hops_over}

-- whatever word the unbound Var gets: only its own step changes, and nothing is remembered of where a chain ends
pub hops_bind : (s : List ℕ) (top v w : ℕ) (hops : List ℕ) → WellFormed s top → kind_at s v ≡ Var v → Hops s top hops → Hops (set s v w) top hops
unfolding step step_kind
hops_bind s top v w hops wf u h =
    hops_over h (set s v w) (λ i l g n. ap (λ (x : ℕ). step_kind i (kind_of x)) (get_or-set_other s v i w 0 (λ q. n (ap (step s) q ∙ ap (step_kind v) u ∙ sym q)))) (chained s top wf)
