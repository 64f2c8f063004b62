mod ArrayLaws
mod JsonTexts
mod PieceLaws
mod ShownTextLaws
mod StreamLaws
mod WorkedReports
