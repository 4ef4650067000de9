mod WantingLemmas
