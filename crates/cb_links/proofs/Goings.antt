-- Frames that go on a stream.
use Rattle.std.proofs.Common.{◌≡◌, ◌≢◌, ℕ, ◌<◌, List, ◌++◌, length, length-append, append_assoc, Option, Some, None, ap, sym, ◌∙◌, arith}
use Rattle.std.proofs.lemmas.List.{append-nil, nil_from_length}
use Rattle.std.specs.Io.KnownBytes.{Appends}
use Rattle.cb_links.specs.Streams.{Writes}

-- what a stream has grows by both
appends_both : (a b c : Option (List ℕ)) (xs ys : List ℕ) → Appends a b xs → Appends b c ys → Appends a c (xs ++ ys)
appends_both None b c xs ys p q = tt
appends_both (Some es) None c xs ys p q = absurd p
appends_both (Some es) (Some fs) None xs ys p q = absurd q
appends_both (Some es) (Some fs) (Some gs) xs ys p q = q ∙ ap (λ (zs : List ℕ). zs ++ ys) p ∙ append_assoc es xs ys

-- all that was left went, and then some of the frame
pub goes_on : (a b c : Option (List ℕ)) (left gone frame rest : List ℕ) → Writes a b left gone → length gone ≡ 0 → Writes b c frame rest → length rest ≢ length frame → Writes a c (left ++ frame) rest × (length rest < length frame)
goes_on a b c left gone frame rest first none second begun =
    let all : left ≡ first.bytes = first.parts ∙ ap (λ (g : List ℕ). first.bytes ++ g) (nil_from_length gone none) ∙ append-nil first.bytes in (
      record {
        bytes = first.bytes ++ second.bytes;
        written = appends_both a b c first.bytes second.bytes first.written second.written;
        parts = ap (λ (l : List ℕ). l ++ frame) all ∙ ap (λ (f : List ℕ). first.bytes ++ f) second.parts ∙ sym (append_assoc first.bytes second.bytes rest);
      },
      omega (arith, begun, ap length second.parts, length-append second.bytes rest),
    )
