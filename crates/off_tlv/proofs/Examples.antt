-- A few files against the definition.
use Rattle.std.proofs.Common.{ℕ, List, [], ◌∷◌, refl, lit≤, lit<}
use Rattle.off_base.specs.Tree.{Tree, leaf, group, no_more, followed}
use Rattle.off_tlv.specs.Grammar.{in_file, Stands, FileOf}
use Rattle.off_tlv.specs.Fault.{Behind, passes, within, IsFirstFault}
use Rattle.off_tlv.specs.declared.faults.ReadFault.TheVariants.{Cut, NoEnd, AfterEnd, EarlyPad}

-- network access, the first setting of most files
access : Tree
access = leaf 3 (1 ∷ [])

access_stands : Stands in_file access
unfolding access
access_stands = record { shaped = (refl, refl); fits = lit≤ tt }

-- the extension field with a vendor identifier
vendor : FileOf (43 ∷ 5 ∷ 8 ∷ 3 ∷ 0 ∷ 1 ∷ 2 ∷ 255 ∷ 0 ∷ []) (group 43 (followed (leaf 8 (0 ∷ 1 ∷ 2 ∷ [])) no_more) ∷ [])
vendor = record { stand = (record { shaped = (refl, refl, ((refl, refl), tt)); fits = (lit≤ tt, (lit≤ tt, tt)) }, tt); pads = 1; whole = refl }

-- setting 64 is a leaf
multicast : FileOf (64 ∷ 1 ∷ 0 ∷ 255 ∷ []) (leaf 64 (0 ∷ []) ∷ [])
multicast = record { stand = (record { shaped = (refl, refl); fits = lit≤ tt }, tt); pads = 0; whole = refl }

behind_access : (rest : List ℕ) → Behind in_file (3 ∷ 1 ∷ 1 ∷ rest) 3 rest
unfolding access
behind_access rest = record { before = access ∷ []; stand = (access_stands, tt); whole = refl; here = refl }

-- a part of a service flow that passes its group, and not the file
cut_part : IsFirstFault (3 ∷ 1 ∷ 1 ∷ 24 ∷ 4 ∷ 1 ∷ 5 ∷ 0 ∷ 1 ∷ 255 ∷ []) (Cut 5)
cut_part =
    within 24 3 0 (1 ∷ 5 ∷ 0 ∷ 1 ∷ []) (255 ∷ []) (behind_access (24 ∷ 4 ∷ 1 ∷ 5 ∷ 0 ∷ 1 ∷ 255 ∷ [])) refl refl
    (passes (1 ∷ 5 ∷ 0 ∷ 1 ∷ []) (record { before = []; stand = tt; whole = refl; here = refl }) refl (lit< tt)) refl

early : IsFirstFault (3 ∷ 1 ∷ 1 ∷ 0 ∷ 255 ∷ []) (EarlyPad 3)
early = (255 ∷ [], behind_access (0 ∷ 255 ∷ []))

unmarked : IsFirstFault (3 ∷ 1 ∷ 1 ∷ []) NoEnd
unmarked = (3, behind_access [])

not_zero : IsFirstFault (3 ∷ 1 ∷ 1 ∷ 255 ∷ 1 ∷ []) (AfterEnd 4)
not_zero = (3, 0, 1, [], behind_access (255 ∷ 1 ∷ []), (λ e. cc), refl)
