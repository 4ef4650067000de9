-- What the writes of a journal make of one file.
use Rattle.std.proofs.Common.{◌≡◌, ℕ, ◌+◌, ◌<◌, List, [], ◌∷◌, ◌++◌, length, get_or, take, drop, sym, ap, ◌∙◌, arith, append_assoc, append-nil, length-append, take-append-drop}
use Rattle.std.proofs.lemmas.List.{take_at, drop_at, drop_more}
use Rattle.off_disk.specs.DiskCalls.{Holds, Torn}
use Rattle.off_disk.specs.Records.{record_of, blocks, IsClosed, IsDoubtful, IsBroken}
use Rattle.off_disk.specs.Crashing.{closed_record}

-- one byte more than the front
front_one : (xs : List ℕ) (g : ℕ) (rest : List ℕ) (n : ℕ) → length xs ≡ n → take (n + 1) (xs ++ g ∷ rest) ≡ xs ++ g ∷ []
front_one xs g rest n long =
    ap (λ (l : List ℕ). take (n + 1) l) (sym (append_assoc xs (g ∷ []) rest)) ∙ take_at (xs ++ g ∷ []) rest (n + 1) (omega (arith, long, length-append xs (g ∷ [])))

behind_one : (xs : List ℕ) (g : ℕ) (rest : List ℕ) (n : ℕ) → length xs ≡ n → drop (n + 1) (xs ++ g ∷ rest) ≡ rest
behind_one xs g rest n long =
    ap (λ (l : List ℕ). drop (n + 1) l) (sym (append_assoc xs (g ∷ []) rest)) ∙ drop_at (xs ++ g ∷ []) rest (n + 1) (omega (arith, long, length-append xs (g ∷ [])))

-- records and one more
pub blocks_push : (ps : List (List ℕ)) (p rest : List ℕ) → blocks (ps ++ p ∷ []) ++ rest ≡ blocks ps ++ (1 ∷ (record_of p ++ rest))
blocks_push [] p rest = ap (λ (l : List ℕ). 1 ∷ l) (ap (λ (l : List ℕ). l ++ rest) (append-nil (record_of p)))
blocks_push (q ∷ ps) p rest =
    ap (λ (l : List ℕ). 1 ∷ l)
    (append_assoc (record_of q) (blocks (ps ++ p ∷ [])) rest
    ∙ (ap (λ (l : List ℕ). record_of q ++ l) (blocks_push ps p rest)
    ∙ sym (append_assoc (record_of q) (blocks ps) (1 ∷ (record_of p ++ rest)))))

module _ (ps : List (List ℕ)) (n : ℕ) (long : length (blocks ps) ≡ n) where
  -- the gate stands, whatever comes behind it
  pub torn_behind : (k : ℕ) (d c : List ℕ) → IsClosed ps d → Torn (n + 1) k d c → IsClosed ps c
  torn_behind k d c closed torn =
      let front : take (n + 1) c ≡ blocks ps ++ closed.gate ∷ [] =
      torn.before ∙ (ap (λ (l : List ℕ). take (n + 1) l) closed.is ∙ front_one (blocks ps) closed.gate closed.rest n long) in
      let whole : c ≡ blocks ps ++ closed.gate ∷ drop (n + 1) c =
      sym (take-append-drop (n + 1) c) ∙ (ap (λ (l : List ℕ). l ++ drop (n + 1) c) front ∙ append_assoc (blocks ps) (closed.gate ∷ []) (drop (n + 1) c)) in
      record { gate = closed.gate; rest = drop (n + 1) c; is = whole; shut = closed.shut }

  pub written_behind : (p room d c : List ℕ) → IsClosed ps d → Holds (n + 1) (closed_record p ++ room) d c → IsDoubtful ps p c
  written_behind p room d c closed holds =
      let front : take (n + 1) d ≡ blocks ps ++ closed.gate ∷ [] = ap (λ (l : List ℕ). take (n + 1) l) closed.is ∙ front_one (blocks ps) closed.gate closed.rest n long in
      let last = drop (n + 1 + length (closed_record p ++ room)) d in
      let rest = room ++ last in
      let whole : c ≡ blocks ps ++ closed.gate ∷ ((closed_record p ++ room) ++ last) =
      holds ∙ (ap (λ (l : List ℕ). l ++ ((closed_record p ++ room) ++ last)) front ∙ append_assoc (blocks ps) (closed.gate ∷ []) ((closed_record p ++ room) ++ last)) in
      let inner : (closed_record p ++ room) ++ last ≡ record_of p ++ 0 ∷ rest = append_assoc (closed_record p) room last ∙ append_assoc (record_of p) (0 ∷ []) rest in
      record { gate = closed.gate; rest = rest; is = whole ∙ ap (λ (l : List ℕ). blocks ps ++ closed.gate ∷ l) inner }

  -- behind the gate stands the same
  pub torn_gate : (p d c : List ℕ) → IsDoubtful ps p d → Torn n 1 d c → IsDoubtful ps p c
  torn_gate p d c doubtful torn =
      let tail = record_of p ++ 0 ∷ doubtful.rest in
      let front : take n c ≡ blocks ps = torn.before ∙ (ap (λ (l : List ℕ). take n l) doubtful.is ∙ take_at (blocks ps) (doubtful.gate ∷ tail) n long) in
      let back : drop (n + 1) c ≡ tail = torn.behind ∙ (ap (λ (l : List ℕ). drop (n + 1) l) doubtful.is ∙ behind_one (blocks ps) doubtful.gate tail n long) in
      let size : length d ≡ n + (1 + length tail) = ap length doubtful.is ∙ (length-append (blocks ps) (doubtful.gate ∷ tail) ∙ omega (arith, long)) in
      let some : n < length c = omega (arith, size, torn.no_shorter) in
      let rest : drop n c ≡ get_or c n 0 ∷ tail = drop_more c n 0 some ∙ ap (λ (l : List ℕ). get_or c n 0 ∷ l) back in
      record {
        gate = get_or c n 0;
        rest = doubtful.rest;
        is = sym (take-append-drop n c) ∙ (ap (λ (l : List ℕ). l ++ drop n c) front ∙ ap (λ (l : List ℕ). blocks ps ++ l) rest);
      }

  written_over : (p d c : List ℕ) (byte : ℕ) → (doubtful : IsDoubtful ps p d) → Holds n (byte ∷ []) d c → c ≡ blocks ps ++ byte ∷ (record_of p ++ 0 ∷ doubtful.rest)
  written_over p d c byte doubtful holds =
      let tail = record_of p ++ 0 ∷ doubtful.rest in
      let front : take n d ≡ blocks ps = ap (λ (l : List ℕ). take n l) doubtful.is ∙ take_at (blocks ps) (doubtful.gate ∷ tail) n long in
      let back : drop (n + 1) d ≡ tail = ap (λ (l : List ℕ). drop (n + 1) l) doubtful.is ∙ behind_one (blocks ps) doubtful.gate tail n long in
      holds ∙ (ap (λ (l : List ℕ). l ++ (byte ∷ drop (n + 1) d)) front ∙ ap (λ (l : List ℕ). blocks ps ++ byte ∷ l) back)

  pub closed_gate : (p d c : List ℕ) → IsDoubtful ps p d → Holds n (0 ∷ []) d c → IsClosed ps c
  closed_gate p d c doubtful holds = record {
    gate = 0;
    rest = record_of p ++ 0 ∷ doubtful.rest;
    is = written_over p d c 0 doubtful holds;
    shut = λ e. absurd (omega (arith, e));
  }

  pub opened_gate : (p d c : List ℕ) → IsDoubtful ps p d → Holds n (1 ∷ []) d c → IsClosed (ps ++ p ∷ []) c
  opened_gate p d c doubtful holds = record {
    gate = 0;
    rest = doubtful.rest;
    is = written_over p d c 1 doubtful holds
        ∙ sym (blocks_push ps p (0 ∷ doubtful.rest));
    shut = λ e. absurd (omega (arith, e));
  }

  -- a broken journal
  pub torn_broken : (d c : List ℕ) → IsBroken ps d → Torn n 1 d c → IsBroken ps c
  torn_broken d c broken torn =
      let front : take n c ≡ blocks ps = torn.before ∙ (ap (λ (l : List ℕ). take n l) broken.is ∙ take_at (blocks ps) (broken.gate ∷ broken.rest) n long) in
      let back : drop (n + 1) c ≡ broken.rest = torn.behind ∙ (ap (λ (l : List ℕ). drop (n + 1) l) broken.is ∙ behind_one (blocks ps) broken.gate broken.rest n long) in
      let size : length d ≡ n + (1 + length broken.rest) = ap length broken.is ∙ (length-append (blocks ps) (broken.gate ∷ broken.rest) ∙ omega (arith, long)) in
      let some : n < length c = omega (arith, size, torn.no_shorter) in
      let rest : drop n c ≡ get_or c n 0 ∷ broken.rest = drop_more c n 0 some ∙ ap (λ (l : List ℕ). get_or c n 0 ∷ l) back in
      record {
        gate = get_or c n 0;
        rest = broken.rest;
        is = sym (take-append-drop n c) ∙ (ap (λ (l : List ℕ). l ++ drop n c) front ∙ ap (λ (l : List ℕ). blocks ps ++ l) rest);
        none = broken.none;
      }

  pub mended : (d c : List ℕ) → IsBroken ps d → Holds n (0 ∷ []) d c → IsClosed ps c
  mended d c broken holds =
      let front : take n d ≡ blocks ps = ap (λ (l : List ℕ). take n l) broken.is ∙ take_at (blocks ps) (broken.gate ∷ broken.rest) n long in
      let back : drop (n + 1) d ≡ broken.rest = ap (λ (l : List ℕ). drop (n + 1) l) broken.is ∙ behind_one (blocks ps) broken.gate broken.rest n long in
      record {
        gate = 0;
        rest = broken.rest;
        is = holds ∙ (ap (λ (l : List ℕ). l ++ (0 ∷ drop (n + 1) d)) front ∙ ap (λ (l : List ℕ). blocks ps ++ 0 ∷ l) back);
        shut = λ e. absurd (omega (arith, e));
      }
