-- The lines of features, one behind the other, and as a test.
use Rattle.std.proofs.Common.{◌≡◌, ℕ, ◌+◌, ◌<◌, Bool, true, List, [], ◌∷◌, ◌++◌, length, get_or, take, drop, append_assoc, append-nil, Option, refl, sym, ◌∙◌, ap, subst}
use Rattle.std.specs.Str.{bytes_eq}
use Rattle.std.proofs.{lemmas.Bool.and_from, lemmas.Bool.and_parts, lemmas.List.take-append-drop, lemmas.List.take_more}
use Rattle.std.proofs.{lemmas.Slice.Eq.bytes_eq-Decides, Math.Seq.drop-append_seam, Math.Seq.take-append_seam}
use Rattle.loc_spec_text.specs.Bytes.{Text}
use Rattle.loc_spec_valid.specs.{Breaches.Breach, Breaches.IsBreachOf, BreachTexts.breach_line}
use Rattle.loc_rings.specs.Values.{Feature}
use Rattle.loc_faces.specs.Subdivision.{face_at, next_at}
use Rattle.loc_breaches.specs.BreachCourses.{AreLines, are_lines, breaches_of, goes_on}
use Rattle.loc_breaches.proofs.{Members.among_any, Members.any_among, Said.breaks_said, Said.said_breaks}

-- one line more
pub lines_more : (scale : ℕ) (fs : List Feature) (text : Text) (feature : Feature) (breach : Option Breach) → AreLines scale fs text → IsBreachOf next_at face_at feature.polygons breach
    → AreLines scale (fs ++ feature ∷ []) (text ++ breach_line scale feature.id breach)
lines_more scale [] text feature breach is breaks =
    let line = breach_line scale feature.id breach in
    (breach, breaks, ([], ap (λ (t : Text). t ++ line) is ∙ sym (append-nil line), refl))
lines_more scale (f ∷ fs) text feature breach (own, own_breaks, (rest, is, more)) breaks =
    let line = breach_line scale feature.id breach in
    (own, own_breaks, (rest ++ line, ap (λ (t : Text). t ++ line) is ∙ append_assoc (breach_line scale f.id own) rest line, lines_more scale fs rest feature breach more breaks))

-- one feature more of a layer
pub line_at : (scale : ℕ) (items : List Feature) (i : ℕ) (feature : Feature) (breach : Option Breach) (text new line : Text) → i < length items → feature ≡ get_or items i feature → new ≡ text ++ line → line ≡ breach_line scale feature.id breach
    → IsBreachOf next_at face_at feature.polygons breach → AreLines scale (take i items) text → AreLines scale (take (i + 1) items) new
line_at scale items i feature breach text new line fits at is same breaks lines =
    subst (λ (fs : List Feature). AreLines scale fs new) (sym (take_more items i feature fits ∙ ap (λ (f : Feature). take i items ++ f ∷ []) (sym at)))
    (subst (AreLines scale (take i items ++ feature ∷ [])) (sym (is ∙ ap (λ (l : Text). text ++ l) same)) (lines_more scale (take i items) text feature breach lines breaks))

-- a text that begins with a line goes on behind it
begins : (line rest text : Text) (test : Text → Bool) → text ≡ line ++ rest → test rest ≡ true → goes_on line test text ≡ true
begins line rest text test is passes =
    and_from (bytes_eq (take (length line) text) line) (test (drop (length line) text))
    ((bytes_eq-Decides (take (length line) text) line).1 (ap (take (length line)) is ∙ take-append_seam line rest))
    (ap (λ (t : Text). test (drop (length line) t)) is ∙ (ap test (drop-append_seam line rest) ∙ passes))

parted : (line text : Text) (test : Text → Bool) → goes_on line test text ≡ true → (text ≡ line ++ drop (length line) text) × (test (drop (length line) text) ≡ true)
parted line text test passes =
    let two = and_parts (bytes_eq (take (length line) text) line) (test (drop (length line) text)) passes in
    (sym (take-append-drop (length line) text) ∙ ap (λ (t : Text). t ++ drop (length line) text) ((bytes_eq-Decides (take (length line) text) line).0 two.0), two.1)

-- lines pass the test
pub lines_pass : (scale : ℕ) (fs : List Feature) (text : Text) → AreLines scale fs text → are_lines scale fs text ≡ true
lines_pass scale [] text is = (bytes_eq-Decides text []).1 is
lines_pass scale (f ∷ fs) text (breach, breaks, (rest, is, more)) =
    among_any (λ b. goes_on (breach_line scale f.id b) (are_lines scale fs) text) (breaches_of f.polygons) breach (breaks_said f.polygons breach breaks)
    (begins (breach_line scale f.id breach) rest text (are_lines scale fs) is (lines_pass scale fs rest more))

-- and what passes are lines
pub passes_lines : (scale : ℕ) (fs : List Feature) (text : Text) → are_lines scale fs text ≡ true → AreLines scale fs text
passes_lines scale [] text passes = (bytes_eq-Decides text []).0 passes
passes_lines scale (f ∷ fs) text passes =
    let found = any_among (λ b. goes_on (breach_line scale f.id b) (are_lines scale fs) text) (breaches_of f.polygons) passes in
    let line = breach_line scale f.id found.0 in
    let two = parted line text (are_lines scale fs) found.2 in
    (found.0, said_breaks f.polygons found.0 found.1, (drop (length line) text, two.0, passes_lines scale fs (drop (length line) text) two.1))
