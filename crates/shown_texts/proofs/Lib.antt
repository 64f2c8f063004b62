mod PairLaws
mod QuotableLaws
mod ReadingLaws
mod WorkedTexts
