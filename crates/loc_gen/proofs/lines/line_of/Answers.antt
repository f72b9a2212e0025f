use Rattle.std.proofs.Common.{◌∙◌, ◌++◌, ap, codes}
use Rattle.loc_gen.specs.Layers.{corner_text}
use Rattle.loc_gen.proofs.lines.line_of.Goals as goal

pub returns : goal.returns
returns c =
    let f = c.args.feature in
    let line1 = c.put.ensures.text ∙ ap (λ l. l ++ codes "POLYGON ((") c.new-line.ensures in
    let line2 = c.put_corner.ensures.text ∙ ap (λ l. l ++ corner_text f.left f.low) line1 in
    let line3 = c.put-2.ensures.text ∙ ap (λ l. l ++ codes ", ") line2 in
    let line4 = c.put_corner-2.ensures.text ∙ ap (λ l. l ++ corner_text f.right f.low) line3 in
    let line5 = c.put-3.ensures.text ∙ ap (λ l. l ++ codes ", ") line4 in
    let line6 = c.put_corner-3.ensures.text ∙ ap (λ l. l ++ corner_text f.right f.high) line5 in
    let line7 = c.put-4.ensures.text ∙ ap (λ l. l ++ codes ", ") line6 in
    let line8 = c.put_corner-4.ensures.text ∙ ap (λ l. l ++ corner_text f.left f.high) line7 in
    let line9 = c.put-5.ensures.text ∙ ap (λ l. l ++ codes ", ") line8 in
    let line10 = c.put_corner-5.ensures.text ∙ ap (λ l. l ++ corner_text f.left f.low) line9 in
    c.put-6.ensures.text ∙ ap (λ l. l ++ codes "))\n") line10
