use Rattle.rad_server.proofs.book.Book.history.Goals as goal

pub returns-clause-repeat : goal.returns-clause-repeat
returns-clause-repeat c =
    let book = c.self.inside in
    let opening = c.state_is_lawful.ensures in
    rw (← c.self.view_is)
    (c.runs_repeat.ensures book.opening.configuration book.opening.state book.history.items opening.configuration opening.state)

pub returns-clause-lawful : goal.returns-clause-lawful
returns-clause-lawful c =
    let book = c.self.inside in
    let opening = c.state_is_lawful.ensures in
    rw (← c.self.view_is)
    (c.runs_are_lawful.ensures book.opening.configuration book.opening.state book.history.items opening.configuration opening.state)
