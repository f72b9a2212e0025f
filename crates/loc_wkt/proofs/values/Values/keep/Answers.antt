use Rattle.std.proofs.Common.{◌+◌, ◌∙◌, ap, rules, option_map}
use Rattle.loc_spec_text.specs.Reading.{ring_fault}
use Rattle.loc_wkt.proofs.PassLemmas.{kept_ring, lost_ring, on_ok}
use Rattle.loc_wkt.proofs.values.Values.keep.Goals as goal

pub returns-in-None : goal.returns-in-None
returns-in-None c = let v = c.args.self.now in record {
  ok = on_ok c.add.result _ _ (λ added. kept_ring v c.args.ring.items c.with-self.result c.add.new.self
      (c.in-None.ensures.fault ∙ ap (λ points. option_map (λ f. f (v.rings.count + 1)) (ring_fault points)) c.deref.ensures.value) (search rules) added) c.add.ensures.ok;
}

pub returns-in-Some : goal.returns-in-Some
returns-in-Some c = let v = c.args.self.now in record {
  ok = lost_ring v c.args.ring.items c.with-self.result c.in-Some.field-0
      (c.in-Some.ensures.fault ∙ ap (λ points. option_map (λ f. f (v.rings.count + 1)) (ring_fault points)) c.deref.ensures.value) (search rules);
}
