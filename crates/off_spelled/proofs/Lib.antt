pub mod SpellLemmas
