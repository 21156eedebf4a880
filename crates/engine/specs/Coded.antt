-- What a C caller sees of a call: the number it returns, and its answer, written where the caller asked for it.
use Rattle.std.specs.Prelude.{◌≡◌, refl, List, ℕ, Ok, Err, MatchResult}
use Rattle.std.specs.Prelude.{Result as Answered}
use Rattle.std.proofs.Common.{ap, ◌∙◌}
use Rattle.cell.specs.Answers.{refusal_number}
use Rattle.cell.specs.declared.Refusal.{Refusal}
use Rattle.trail.specs.State.{State, Answer, Outcome, done, failed, refused, answer_of, said, said_number}
use Rattle.unification.specs.Calls.{Result}

-- 0 for an answer, else the number of the refusal
abbrev pub code_of : Outcome → ℕ
code_of (done n) = 0
code_of failed = 0
code_of (refused r) = refusal_number r

-- an answer that is a word, a cell or a mark's number; a refusal leaves what stood there
abbrev pub told_of : Outcome → ℕ → ℕ
told_of (done n) before = n
told_of failed before = before
told_of (refused r) before = before

-- an answer that is yes, 1, or no, 0; a refusal leaves what stood there
abbrev pub yes_of : Outcome → ℕ → ℕ
yes_of (done n) before = 1
yes_of failed before = 0
yes_of (refused r) before = before

-- a call that only does something: the number returned, and the lent words after it
abbrev pub coded : {A : Type 0} → Outcome × A → ℕ × A
coded r = (code_of r.0, r.1)

-- a call that only tells a number: the number returned, and the answer
abbrev pub tells : Outcome → ℕ → ℕ × ℕ
tells o before = (code_of o, told_of o before)

-- a call that only says yes or no: the number returned, and the answer
abbrev pub decides : Outcome → ℕ → ℕ × ℕ
decides o before = (code_of o, yes_of o before)

-- a call that tells a number: the number returned, the answer, and the lent words after it
abbrev pub told : {A : Type 0} → Outcome × A → ℕ → ℕ × ℕ × A
told r before = (code_of r.0, told_of r.0 before, r.1)

-- a unification: the number returned, the answer, and the state and the work words after it
abbrev pub decided : Result → ℕ → ℕ × ℕ × State × List ℕ
decided r before = (code_of r.0, yes_of r.0 before, r.1, r.2)

-- an answer that is written where the caller asked for it, and the number returned
abbrev pub Told : {T : Type 0} → Answered T Refusal → T → ℕ → T → Type 0
Told answer before c now = MatchResult answer (λ x. (c ≡ 0) × (now ≡ x)) (λ r. (c ≡ refusal_number r) × (now ≡ before))

-- ---- laws: from what the inner call says to what C sees
-- an answer that tells nothing
pub said_answer : (r : Answer) → said (answer_of r) ≡ said r
said_answer (Ok u) = refl
said_answer (Err e) = refl

-- an answer that tells a number
pub tells_by : (r : Answered ℕ Refusal) (before : ℕ) {c n : ℕ} → Told r before c n → (c, n) ≡ tells (said_number r) before
tells_by (Ok x) before t = λ i. (t.0 i, t.1 i)
tells_by (Err e) before t = λ i. (t.0 i, t.1 i)

-- ---- with the lent words after the call
module _ {A : Type 0} {o : Outcome} {s : A} {p : Outcome × A} (e : (o, s) ≡ p) where
  pub coded_by : {c : ℕ} → c ≡ code_of o → (c, s) ≡ coded p
  coded_by q = ap (λ c. (c, s)) q ∙ ap coded e

  pub told_by : (before : ℕ) {c n : ℕ} → (c, n) ≡ tells o before → (c, n, s) ≡ told p before
  told_by before q = ap (λ (x : ℕ × ℕ). (x.0, x.1, s)) q ∙ ap (λ x. told x before) e

module _ {o : Outcome} {s : State} {w : List ℕ} {p : Result} (e : ◌≡◌ {A = Result} (o, s, w) p) where
  pub decided_by : (before : ℕ) {c n : ℕ} → (c, n) ≡ decides o before → ◌≡◌ {A = ℕ × ℕ × State × List ℕ} (c, n, s, w) (decided p before)
  decided_by before q = ap (λ (x : ℕ × ℕ). (x.0, x.1, s, w)) q ∙ ap (λ (x : Result). decided x before) e
