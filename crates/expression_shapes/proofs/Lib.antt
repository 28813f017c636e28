mod GivenViews
