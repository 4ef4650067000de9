-- When a head is a query.
use Rattle.std.proofs.Common.{◌≡◌, ℕ, Bool, true, false, cond, ◌&&◌, List, Some, None, refl, ap, ◌∙◌, subst}
use Rattle.off_dhcp.specs.Datagram.{has_head, head_of, options_in}
use Rattle.off_query_rules.specs.Asked.{says_query, is_query, query_of}

pub no_head : (bytes : List ℕ) → head_of bytes ≡ None → query_of bytes ≡ None
unfolding is_query
no_head bytes none =
    elim (has_head bytes) as (λ b. cond b (Some bytes) None ≡ None → cond (b && says_query (options_in bytes)) (Some bytes) None ≡ None) [
      | true ↦ λ is. cc
      | false ↦ λ is. refl
    ] none

same_head : (bytes head : List ℕ) (b : Bool) → cond b (Some bytes) None ≡ Some head → bytes ≡ head
same_head bytes head true is = cc
same_head bytes head false is = cc

pub of_head : (bytes head : List ℕ) → head_of bytes ≡ Some head → bytes ≡ head
of_head bytes head is = same_head bytes head (has_head bytes) is

head_there : (bytes head : List ℕ) (b : Bool) → cond b (Some bytes) None ≡ Some head → b ≡ true
head_there bytes head true is = refl
head_there bytes head false is = cc

-- a head says whether it's a query
pub said : (bytes head : List ℕ) (b : Bool) → head_of bytes ≡ Some head → says_query (options_in head) ≡ b → is_query bytes ≡ b
unfolding is_query
said bytes head b is says =
    ap (λ h. h && says_query (options_in bytes)) (head_there bytes head (has_head bytes) is)
    ∙ ap (λ (xs : List ℕ). says_query (options_in xs)) (same_head bytes head (has_head bytes) is) ∙ says

pub not_said : (bytes head : List ℕ) → head_of bytes ≡ Some head → says_query (options_in head) ≡ false → query_of bytes ≡ None
not_said bytes head is says = ap (λ b. cond b (Some bytes) None) (said bytes head false is says)

pub is_said : (bytes head : List ℕ) → head_of bytes ≡ Some head → says_query (options_in head) ≡ true → query_of bytes ≡ Some head
is_said bytes head is says =
    ap (λ b. cond b (Some bytes) None) (said bytes head true is says)
    ∙ ap Some (same_head bytes head (has_head bytes) is)

pub said_of_head : (bytes head : List ℕ) → head_of bytes ≡ Some head → says_query (options_in head) ≡ true → is_query head ≡ true
said_of_head bytes head is says =
    subst (λ (xs : List ℕ). is_query xs ≡ true) (same_head bytes head (has_head bytes) is) (said bytes head true is says)
