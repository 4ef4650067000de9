-- What a session has heard: all the bytes of its connection so far, and what they say.
use Rattle.std.specs.Prelude.{◌≡◌, List, [], ◌++◌, ℕ}
use Rattle.off_http.specs.declared.answers.Fed.{Fed}
use Rattle.off_http.specs.declared.answers.Fed.TheVariants.{Wait, Whole, Bad}
use Rattle.off_http.specs.Request.{Meaning, Waits, Refused, Asked}

pub record Heard : Type 0 where
  pub bytes : List ℕ
  pub answer : Meaning

-- a request has come
abbrev pub IsAsked : Meaning → Type 0
IsAsked Waits = ⊥
IsAsked (Refused fault) = ⊥
IsAsked (Asked method target body) = Unit {0}

-- what a session answers to a piece tells what the bytes say
abbrev pub Answers : Fed → Meaning → Type 0
Answers Wait meaning = meaning ≡ Waits
Answers Whole meaning = IsAsked meaning
Answers (Bad fault) meaning = meaning ≡ Refused fault

abbrev pub asked_method : Meaning → List ℕ
asked_method Waits = []
asked_method (Refused fault) = []
asked_method (Asked method target body) = method

abbrev pub asked_target : Meaning → List ℕ
asked_target Waits = []
asked_target (Refused fault) = []
asked_target (Asked method target body) = target

abbrev pub asked_body : Meaning → List ℕ
asked_body Waits = []
asked_body (Refused fault) = []
asked_body (Asked method target body) = body

-- the bytes of `part` stand in `whole`, one after another
abbrev pub IsPartOf : List ℕ → List ℕ → Type 0
IsPartOf part whole = (before : List ℕ) × (behind : List ℕ) × (whole ≡ before ++ part ++ behind)
