-- The frames that calls took, and what was answered.
use Rattle.std.specs.Prelude.{ℕ, List, [], ◌∷◌, map}
use Rattle.krb_peers.specs.Calls.{Answers, Call}
use Rattle.krb_peers.specs.Verdicts.{Verdict}

-- the frames of these calls, in their order
abbrev pub frames_of : List Call → List (List ℕ)
frames_of calls = map (λ (call : Call). call.frame) calls

-- what each call answered, in their order: its verdict, or out of memory
abbrev pub AreAnswers : List Verdict → List Call → Type 0
AreAnswers [] [] = Unit {0}
AreAnswers [] (call ∷ calls) = ⊥
AreAnswers (answer ∷ answers) [] = ⊥
AreAnswers (answer ∷ answers) (call ∷ calls) =
    Answers answer call.answer × AreAnswers answers calls
