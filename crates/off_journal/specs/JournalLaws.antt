-- What opens from a closed journal, and from a doubtful one.
use Rattle.std.proofs.Common.{◌≡◌, ℕ, ◌⊎◌, inl, inr, List, [], ◌∷◌, ◌++◌, refl, sym, subst, ◌∙◌}
use Rattle.std.proofs.Common.{map as each}
use Rattle.std.proofs.lemmas.List.{map-append}
use Rattle.off_defs.specs.declared.writes.Write.{Write}
use Rattle.off_defs.specs.State.{Tables}
use Rattle.off_defs.specs.Tables.{write_all}
use Rattle.off_disk.specs.Records.{Stands, AreShort, IsClosed, IsDoubtful}
use Rattle.off_disk.specs.RecordLaws.{closed_stands, doubtful_stands}
use Rattle.off_journal.specs.Payload.{payload_of}
use Rattle.off_journal.specs.Journal.{tables_from, tables_of, AllAreSpelled, Opens}
use Rattle.off_journal.specs.Journal.{IsCommit, AreCommits}
use Rattle.std.specs.FinMap as map

pub all_short : (commits : List (List Write)) → AreCommits commits
    → AreShort (each payload_of commits)
all_short [] are = tt
all_short (ws ∷ commits) are = (are.0.short, all_short commits are.1)

pub all_spelled : (commits : List (List Write)) → AreCommits commits → AllAreSpelled commits
all_spelled [] are = tt
all_spelled (ws ∷ commits) are = (are.0.spelled, all_spelled commits are.1)

pub commits_push : (commits : List (List Write)) (ws : List Write) → AreCommits commits
    → IsCommit ws → AreCommits (commits ++ ws ∷ [])
commits_push [] ws are one = (one, tt)
commits_push (vs ∷ commits) ws are one = (are.0, commits_push commits ws are.1 one)

tables_push_from : (t : Tables) (commits : List (List Write)) (ws : List Write)
    → tables_from t (commits ++ ws ∷ []) ≡ write_all (tables_from t commits) ws
tables_push_from t [] ws = refl
tables_push_from t (vs ∷ commits) ws = tables_push_from (write_all t vs) commits ws

pub tables_push : (commits : List (List Write)) (ws : List Write)
    → tables_of (commits ++ ws ∷ []) ≡ write_all (tables_of commits) ws
tables_push commits ws = tables_push_from map.empty commits ws

pub payloads_push : (commits : List (List Write)) (ws : List Write)
    → each payload_of (commits ++ ws ∷ []) ≡ each payload_of commits ++ payload_of ws ∷ []
payloads_push commits ws = map-append payload_of commits (ws ∷ [])

pub closed_opens : (commits : List (List Write)) (c : List ℕ) (u : Tables) → AreCommits commits
    → IsClosed (each payload_of commits) c → Opens c u → u ≡ tables_of commits
closed_opens commits c u are closed opens =
    opens commits (record {
      stands = closed_stands (each payload_of commits) c (all_short commits are) closed;
      spelled = all_spelled commits are;
    })

either_opens : (commits : List (List Write)) (ws : List Write) (c : List ℕ) (u : Tables)
    → AreCommits commits → IsCommit ws → Opens c u
    → Stands c (each payload_of commits) ⊎ Stands c (each payload_of commits ++ payload_of ws ∷ [])
    → (u ≡ tables_of commits) ⊎ (u ≡ write_all (tables_of commits) ws)
either_opens commits ws c u are one opens (inl before) =
    inl (opens commits (record { stands = before; spelled = all_spelled commits are }))
either_opens commits ws c u are one opens (inr behind) =
    let pushed = commits ++ ws ∷ [] in
    inr (opens pushed (record {
      stands = subst (λ (ps : List (List ℕ)). Stands c ps) (sym (payloads_push commits ws)) behind;
      spelled = all_spelled pushed (commits_push commits ws are one);
    }) ∙ tables_push commits ws)

pub doubtful_opens : (commits : List (List Write)) (ws : List Write) (c : List ℕ) (u : Tables)
    → AreCommits commits → IsCommit ws
    → IsDoubtful (each payload_of commits) (payload_of ws) c → Opens c u
    → (u ≡ tables_of commits) ⊎ (u ≡ write_all (tables_of commits) ws)
doubtful_opens commits ws c u are one doubtful opens =
    either_opens commits ws c u are one opens
    (doubtful_stands (each payload_of commits) (payload_of ws) c (all_short commits are) one.short
    doubtful)
