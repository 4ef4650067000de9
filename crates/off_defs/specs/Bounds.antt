-- The bounds of a row's own numbers, wherever such a number comes from.
use Rattle.std.specs.Prelude.{ℕ, List, [], ◌∷◌}

-- a subscriber's add-ons
abbrev pub add_on_numbers : List ℕ
add_on_numbers = 0 ∷ 1 ∷ 2 ∷ 3 ∷ 4 ∷ 5 ∷ 6 ∷ 7 ∷ []

abbrev pub last_add_on : ℕ
last_add_on = 7

-- behind a modem there is one device at least
abbrev pub most_devices : ℕ
most_devices = 254

-- how many bits name a network
abbrev pub least_prefix : ℕ
least_prefix = 8

abbrev pub most_prefix : ℕ
most_prefix = 30
