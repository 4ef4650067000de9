-- What a crash may leave of a disk in memory.
use Rattle.std.proofs.Common.{◌≡◌, ℕ, ◌≤◌, Option, Some, None, List, [], ◌∷◌, ◌++◌, length, take}
use Rattle.std.proofs.Common.{refl, sym, ap, subst, ◌∙◌, arith, ◌^◌}
use Rattle.std.proofs.lemmas.List.{take_all}
use Rattle.off_disk.specs.DiskCalls.{Torn}
use Rattle.off_defs.specs.Told.{IsOne}
use Rattle.off_disk.proofs.Moments.{whole_torn}
use Rattle.off_memdisk.specs.MemDisks.{written_in, reads_after, AllFit, LeftBy, MemDiskHeld}
use Rattle.off_memdisk.specs.MemDisks.{mem_seen}

pub left_reads : (b : List ℕ) (left : List ℕ → Type 0) (calls : List (Option (ℕ × List ℕ)))
    → AllFit b calls → left b → LeftBy b left calls (reads_after b calls)
left_reads b left [] fits has = has
left_reads b left (None ∷ calls) fits has = left_reads b (λ d. d ≡ b) calls fits refl
left_reads b left (Some w ∷ calls) fits has =
    left_reads (written_in b w.0 w.1) (λ d. (e : List ℕ) × (left e × Torn w.0 (length w.1) e d))
    calls fits.1 (b, (has, whole_torn b w.0 w.1 fits.0))

pub left_torn : (b : List ℕ) (left : List ℕ → Type 0) (calls : List (Option (ℕ × List ℕ)))
    (w : ℕ × List ℕ) (c : List ℕ)
    → LeftBy b left (calls ++ Some w ∷ []) c
    → (d : List ℕ) × (LeftBy b left calls d × Torn w.0 (length w.1) d c)
left_torn b left [] w c has = has
left_torn b left (None ∷ calls) w c has = left_torn b (λ d. d ≡ b) calls w c has
left_torn b left (Some v ∷ calls) w c has =
    left_torn (written_in b v.0 v.1) (λ d. (e : List ℕ) × (left e × Torn v.0 (length v.1) e d))
    calls w c has

pub torn_left : (b : List ℕ) (left : List ℕ → Type 0) (calls : List (Option (ℕ × List ℕ)))
    (w : ℕ × List ℕ) (d c : List ℕ)
    → LeftBy b left calls d → Torn w.0 (length w.1) d c → LeftBy b left (calls ++ Some w ∷ []) c
torn_left b left [] w d c has torn = (d, (has, torn))
torn_left b left (None ∷ calls) w d c has torn = torn_left b (λ e. e ≡ b) calls w d c has torn
torn_left b left (Some v ∷ calls) w d c has torn =
    torn_left (written_in b v.0 v.1) (λ d. (e : List ℕ) × (left e × Torn v.0 (length v.1) e d))
    calls w d c has torn

pub left_synced : (b : List ℕ) (left : List ℕ → Type 0) (calls : List (Option (ℕ × List ℕ)))
    (c : List ℕ)
    → LeftBy b left (calls ++ None ∷ []) c → c ≡ reads_after b calls
left_synced b left [] c has = has
left_synced b left (None ∷ calls) c has = left_synced b (λ d. d ≡ b) calls c has
left_synced b left (Some v ∷ calls) c has =
    left_synced (written_in b v.0 v.1) (λ d. (e : List ℕ) × (left e × Torn v.0 (length v.1) e d))
    calls c has

pub synced_left : (b : List ℕ) (left : List ℕ → Type 0) (calls : List (Option (ℕ × List ℕ)))
    → LeftBy b left (calls ++ None ∷ []) (reads_after b calls)
synced_left b left [] = refl
synced_left b left (None ∷ calls) = synced_left b (λ d. d ≡ b) calls
synced_left b left (Some v ∷ calls) =
    synced_left (written_in b v.0 v.1) (λ d. (e : List ℕ) × (left e × Torn v.0 (length v.1) e d))
    calls

pub reads_push : (b : List ℕ) (calls : List (Option (ℕ × List ℕ))) (w : ℕ × List ℕ)
    → reads_after b (calls ++ Some w ∷ []) ≡ written_in (reads_after b calls) w.0 w.1
reads_push b [] w = refl
reads_push b (None ∷ calls) w = reads_push b calls w
reads_push b (Some v ∷ calls) w = reads_push (written_in b v.0 v.1) calls w

pub reads_sync : (b : List ℕ) (calls : List (Option (ℕ × List ℕ)))
    → reads_after b (calls ++ None ∷ []) ≡ reads_after b calls
reads_sync b [] = refl
reads_sync b (None ∷ calls) = reads_sync b calls
reads_sync b (Some v ∷ calls) = reads_sync (written_in b v.0 v.1) calls

pub fit_push : (b : List ℕ) (calls : List (Option (ℕ × List ℕ))) (w : ℕ × List ℕ) → AllFit b calls
    → w.0 ≤ length (reads_after b calls) → AllFit b (calls ++ Some w ∷ [])
fit_push b [] w fits one = (one, tt)
fit_push b (None ∷ calls) w fits one = fit_push b calls w fits one
fit_push b (Some v ∷ calls) w fits one =
    (fits.0, fit_push (written_in b v.0 v.1) calls w fits.1 one)

pub fit_sync : (b : List ℕ) (calls : List (Option (ℕ × List ℕ))) → AllFit b calls
    → AllFit b (calls ++ None ∷ [])
fit_sync b [] fits = tt
fit_sync b (None ∷ calls) fits = fit_sync b calls fits
fit_sync b (Some v ∷ calls) fits = (fits.0, fit_sync (written_in b v.0 v.1) calls fits.1)

-- ---- the laws

pub mem_one : (m : MemDiskHeld) → IsOne (mem_seen m).bytes
mem_one m x y p q = p.0 ∙ sym q.0

pub mem_lengths : (m : MemDiskHeld) (b : List ℕ) → (mem_seen m).bytes b
    → length b ≡ (mem_seen m).size
mem_lengths m b told = omega (arith, ap length told.0, told.1.small)

pub mem_reads : (m : MemDiskHeld) (b : List ℕ) → (mem_seen m).bytes b
    → (mem_seen m).left (mem_seen m).moment b
mem_reads m b told =
    subst (λ (x : List ℕ). LeftBy m.base (λ d. d ≡ m.base) (take (length m.calls) m.calls) x)
    (sym told.0)
    (subst (λ (cs : List (Option (ℕ × List ℕ))).
    LeftBy m.base (λ d. d ≡ m.base) cs (reads_after m.base m.calls))
    (sym (take_all (length m.calls) m.calls (omega arith)))
    (left_reads m.base (λ d. d ≡ m.base) m.calls told.1.fit refl))

pub mem_small : (m : MemDiskHeld) → (mem_seen m).size ≤ 2 ^ 62
mem_small m = omega arith
