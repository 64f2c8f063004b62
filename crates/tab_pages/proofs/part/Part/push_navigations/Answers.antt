use Rattle.tab_pages.proofs.PartLaws.{navigations-shifted}
use Rattle.tab_pages.proofs.part.Part.push_navigations.Goals as goal

pub returns : goal.returns
returns c = rw (← c.self.view_is, navigations-shifted c.self.inside.fall c.self.inside.pages.items, ← c.as_slice.ensures.value) c.push_navigations.ensures
