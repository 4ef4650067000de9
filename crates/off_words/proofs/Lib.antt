mod WordLemmas
mod ImportWordLemmas
mod SecretLemmas
