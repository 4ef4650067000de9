use Rattle.std.proofs.Common.{option_map, ap, ◌∙◌}
use Rattle.serde_json.specs.Find.{get}
use Rattle.off_documents.specs.Documents.{data_of}
use Rattle.off_documents.proofs.DocumentLemmas.{found_there, found_means}
use Rattle.off_documents.proofs.parts.Part.get_three.Goals as goal

pub part_of-requires : goal.part_of-requires
part_of-requires c = found_there c.self.inside.element c.args.one.now c.self.invariant c.last_three-first.result.0 (λ j begins. (c.last_three-first.ensures j begins).0)

pub part_of-requires-2 : goal.part_of-requires-2
part_of-requires-2 c = found_there c.self.inside.element c.args.two.now c.self.invariant c.last_three-first.result.1 (λ j begins. (c.last_three-first.ensures j begins).1)

pub part_of-requires-3 : goal.part_of-requires-3
part_of-requires-3 c = found_there c.self.inside.element c.args.three.now c.self.invariant c.last_three-first.result.2 (λ j begins. (c.last_three-first.ensures j begins).2)

pub returns-clause-one : goal.returns-clause-one
returns-clause-one c =
    ap (option_map data_of) c.part_of.ensures
    ∙ found_means c.self.inside.element c.args.one.now c.self.invariant c.last_three-first.result.0 (λ j begins. (c.last_three-first.ensures j begins).0)
    ∙ ap (λ ts. get c.args.one.now (data_of ts)) c.self.view_is

pub returns-clause-two : goal.returns-clause-two
returns-clause-two c =
    ap (option_map data_of) c.part_of-2.ensures
    ∙ found_means c.self.inside.element c.args.two.now c.self.invariant c.last_three-first.result.1 (λ j begins. (c.last_three-first.ensures j begins).1)
    ∙ ap (λ ts. get c.args.two.now (data_of ts)) c.self.view_is

pub returns-clause-three : goal.returns-clause-three
returns-clause-three c =
    ap (option_map data_of) c.part_of-3.ensures
    ∙ found_means c.self.inside.element c.args.three.now c.self.invariant c.last_three-first.result.2 (λ j begins. (c.last_three-first.ensures j begins).2)
    ∙ ap (λ ts. get c.args.three.now (data_of ts)) c.self.view_is
