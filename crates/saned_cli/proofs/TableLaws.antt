-- Readings of the system's table, line by line.
use Rattle.std.proofs.Common.{◌≡◌, ℕ, suc, ◌+◌, ◌<◌, ◌≤◌, ◌^◌, Bool, true, false, ◌||◌, ◌&&◌, List, [], ◌∷◌, ◌++◌, append_assoc, Option, Some, None, arith, refl, sym, ap, ◌∙◌, subst, length, inl, inr, ◌⊎◌}
use Rattle.std.specs.Prelude.{filter, map, reverse, IfNone, IfSome, cond}
use Rattle.std.proofs.lemmas.List.{append-nil, length-append, reverse-append}
use Rattle.std.proofs.lemmas.List.Elements.{filter-append}
use Rattle.std.specs.declared.net.socket_addr.SocketAddrV4.{SocketAddrV4}
use Rattle.saned_cli.specs.SocketTable.{IsOwnedBy, end_text, is_socket_between}
use Rattle.socket_calls.specs.SocketCall.{SocketRecord, line_call, with_socket_calls}
use Rattle.socket_calls.specs.SocketCall.SocketCall.{BeginsTable, EndsTable, TellsLine}
use Rattle.saned_cli.specs.TableReadings.{IsOwnerAmong, NamesOwner, lines_told}
use Rattle.saned_cli.specs.Inside.{AreSeenAs, IsSeenIn, lines_between}
use Rattle.saned_cli.specs.declared.table_reading.LinesSeen.{LinesSeen}
use Rattle.saned_cli.specs.declared.table_reading.LinesSeen.TheVariants.{Never, Once, Often}

-- ---- lines of one end

cond_kept : (b : Bool) (line : List ℕ) → b ≡ true → cond b (line ∷ []) [] ≡ line ∷ []
cond_kept b line is = rw is refl

cond_left : (b : Bool) (line : List ℕ) → b ≡ false → cond b (line ∷ []) [] ≡ []
cond_left b line is = rw is refl

pub kept_of : (p : List ℕ → Bool) (lines : List (List ℕ)) (line : List ℕ) → p line ≡ true → filter p (lines ++ line ∷ []) ≡ filter p lines ++ line ∷ []
kept_of p lines line is = filter-append p lines (line ∷ []) ∙ ap (λ (l : List (List ℕ)). filter p lines ++ l) (cond_kept (p line) line is)

pub left_out : (p : List ℕ → Bool) (lines : List (List ℕ)) (line : List ℕ) → p line ≡ false → filter p (lines ++ line ∷ []) ≡ filter p lines
left_out p lines line is = filter-append p lines (line ∷ []) ∙ (ap (λ (l : List (List ℕ)). filter p lines ++ l) (cond_left (p line) line is) ∙ append-nil (filter p lines))

pub seen_as_before : (lines : List (List ℕ)) (peer ours : SocketAddrV4) (line : List ℕ) (seen : LinesSeen) → is_socket_between (end_text peer) (end_text ours) line ≡ false
    → IsSeenIn lines peer ours seen → IsSeenIn (lines ++ line ∷ []) peer ours seen
seen_as_before lines peer ours line seen is s =
    subst (λ (between : List (List ℕ)). AreSeenAs between seen) (sym (left_out (is_socket_between (end_text peer) (end_text ours)) lines line is)) s

first_of_all : (between : List (List ℕ)) (line : List ℕ) (owner : Option ℕ) → between ≡ [] → IfSome owner (λ user. IsOwnedBy line user)
    → IfNone owner ((user : ℕ) → user < 2 ^ 32 → ¬ IsOwnedBy line user) → AreSeenAs (between ++ line ∷ []) (Once owner)
first_of_all between line None none some not = (line, ap (λ (b : List (List ℕ)). b ++ line ∷ []) none, not)
first_of_all between line (Some user) none some not = (line, ap (λ (b : List (List ℕ)). b ++ line ∷ []) none, some)

pub seen_first : (lines : List (List ℕ)) (peer ours : SocketAddrV4) (line : List ℕ) (owner : Option ℕ) → is_socket_between (end_text peer) (end_text ours) line ≡ true
    → IfSome owner (λ user. IsOwnedBy line user) → IfNone owner ((user : ℕ) → user < 2 ^ 32 → ¬ IsOwnedBy line user)
    → IsSeenIn lines peer ours Never → IsSeenIn (lines ++ line ∷ []) peer ours (Once owner)
seen_first lines peer ours line owner is some not s =
    subst (λ (between : List (List ℕ)). AreSeenAs between (Once owner)) (sym (kept_of (is_socket_between (end_text peer) (end_text ours)) lines line is)) (first_of_all (lines_between peer ours lines) line owner s some not)

one_more : (between : List (List ℕ)) (line : List ℕ) (seen : LinesSeen) → (seen ≡ Never → ⊥) → AreSeenAs between seen → AreSeenAs (between ++ line ∷ []) Often
one_more between line Never not s = absurd (not refl)
one_more between line (Once None) not s = (s.0, line, [], ap (λ (b : List (List ℕ)). b ++ line ∷ []) s.1)
one_more between line (Once (Some user)) not s = (s.0, line, [], ap (λ (b : List (List ℕ)). b ++ line ∷ []) s.1)
one_more between line Often not s = (s.0, s.1, s.2 ++ line ∷ [], ap (λ (b : List (List ℕ)). b ++ line ∷ []) s.3)

pub seen_again : (lines : List (List ℕ)) (peer ours : SocketAddrV4) (line : List ℕ) (seen : LinesSeen) → is_socket_between (end_text peer) (end_text ours) line ≡ true
    → (seen ≡ Never → ⊥) → IsSeenIn lines peer ours seen → IsSeenIn (lines ++ line ∷ []) peer ours Often
seen_again lines peer ours line seen is not s =
    subst (λ (between : List (List ℕ)). AreSeenAs between Often) (sym (kept_of (is_socket_between (end_text peer) (end_text ours)) lines line is)) (one_more (lines_between peer ours lines) line seen not s)

-- ---- whom they name

named_once : (lines : List (List ℕ)) (peer ours : SocketAddrV4) (line : List ℕ) → lines_between peer ours lines ≡ line ∷ []
    → ((user : ℕ) → user < 2 ^ 32 → ¬ IsOwnedBy line user) → NamesOwner lines peer ours None
named_once lines peer ours line only not user small owner =
    let same : line ≡ owner.line = cc (only, owner.only) in
    not user small (subst (λ (l : List ℕ). IsOwnedBy l user) (sym same) owner.owned)

pub named_by : (lines : List (List ℕ)) (peer ours : SocketAddrV4) (owner : Option ℕ) → IsSeenIn lines peer ours (Once owner) → NamesOwner lines peer ours owner
named_by lines peer ours None s = named_once lines peer ours s.0 s.1 s.2
named_by lines peer ours (Some user) s = record { line = s.0; only = s.1; owned = s.2 }

-- a line told: it is seen once, or more often
pub not_never : (seen : LinesSeen) → ((owner : Option ℕ) × (seen ≡ Once owner)) ⊎ (seen ≡ Often) → seen ≡ Never → ⊥
not_never seen (inl once) e = cc (once.1, e)
not_never seen (inr often) e = cc (often, e)

-- ---- calls, one behind the other

pub with_more : (more since : SocketRecord) (was : Option SocketRecord) → with_socket_calls more (with_socket_calls since was) ≡ with_socket_calls (more ++ since) was
with_more more since None = refl
with_more more since (Some past) = ap (λ (l : SocketRecord). Some l) (sym (append_assoc more since past))

pub went_on : (more since : SocketRecord) (was mid now : Option SocketRecord) → mid ≡ with_socket_calls since was → now ≡ with_socket_calls more mid → now ≡ with_socket_calls (more ++ since) was
went_on more since was mid now first then = then ∙ (ap (λ (m : Option SocketRecord). with_socket_calls more m) first ∙ with_more more since was)

pub one_line_more : (lines : List (List ℕ)) (line : List ℕ) → lines_told (lines ++ line ∷ []) ≡ TellsLine line ∷ lines_told lines
one_line_more lines line = ap (λ (l : List (List ℕ)). map TellsLine l ++ (BeginsTable true ∷ [])) (reverse-append lines (line ∷ []))

pub told_line : (lines : List (List ℕ)) (line : List ℕ) (has : Bool) (was mid now : Option SocketRecord) → mid ≡ with_socket_calls (lines_told lines) was
    → now ≡ with_socket_calls (line_call has line ∷ []) mid → has ≡ true → now ≡ with_socket_calls (lines_told (lines ++ line ∷ [])) was
told_line lines line has was mid now first then is =
    let told : now ≡ with_socket_calls (TellsLine line ∷ []) mid = subst (λ (b : Bool). now ≡ with_socket_calls (line_call b line ∷ []) mid) is then in
    went_on (TellsLine line ∷ []) (lines_told lines) was mid now first told ∙ ap (λ (l : SocketRecord). with_socket_calls l was) (sym (one_line_more lines line))

pub told_end : (lines : List (List ℕ)) (line : List ℕ) (has : Bool) (was mid now : Option SocketRecord) → mid ≡ with_socket_calls (lines_told lines) was
    → now ≡ with_socket_calls (line_call has line ∷ []) mid → has ≡ false → now ≡ with_socket_calls (EndsTable ∷ lines_told lines) was
told_end lines line has was mid now first then is =
    let told : now ≡ with_socket_calls (EndsTable ∷ []) mid = subst (λ (b : Bool). now ≡ with_socket_calls (line_call b line ∷ []) mid) is then in
    went_on (EndsTable ∷ []) (lines_told lines) was mid now first told

pub begun : (there : Bool) (was now : Option SocketRecord) → now ≡ with_socket_calls (BeginsTable there ∷ []) was → there ≡ true → now ≡ with_socket_calls (lines_told []) was
begun there was now told is = subst (λ (b : Bool). now ≡ with_socket_calls (BeginsTable b ∷ []) was) is told

pub without_table : (there : Bool) (was now : Option SocketRecord) → now ≡ with_socket_calls (BeginsTable there ∷ []) was → there ≡ false → now ≡ with_socket_calls (BeginsTable false ∷ []) was
without_table there was now told is = subst (λ (b : Bool). now ≡ with_socket_calls (BeginsTable b ∷ []) was) is told

pub one_longer : (lines : List (List ℕ)) (line : List ℕ) (n : ℕ) → length lines ≡ n → length (lines ++ line ∷ []) ≡ n + 1
one_longer lines line n e = omega (arith, e, length-append lines (line ∷ []))
