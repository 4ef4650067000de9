-- The blocks in which a file is sent (RFC 1350, section 2; their size by RFC 2348). They are
-- numbered from 1; each but the last has `size` bytes, and the last has fewer.
use Rattle.std.specs.Prelude.{ℕ, zero, suc, ◌*◌, List, [], take, drop}

abbrev pub block : List ℕ → ℕ → ℕ → List ℕ
block file size zero = []
block file size (suc before) = take size (drop (before * size) file)
